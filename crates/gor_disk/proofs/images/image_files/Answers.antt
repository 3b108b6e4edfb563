use Rattle.std.proofs.Common.{◌≡◌, arith}
use Rattle.std.proofs.lemmas.List.{get_or_default}
use Rattle.gor_disk.specs.Disk.{IsImage}
use Rattle.gor_disk.proofs.Steps.{image_step_by}
use Rattle.gor_disk.proofs.images.image_files.Goals as goal

pub loop-i-preserved : goal.loop-i-preserved
loop-i-preserved c = record {
  image = image_step_by IsImage c.args.first.now c.loop-i.files.items c.advance.new.files.items c.args.calls.now c.args.kept.now c.loop-i.i _ c.index-kept-i.result _
      (omega arith) c.requires.paired (get_or_default c.args.calls.now c.loop-i.i _ _ (omega arith)) c.index-kept-i.is
      c.loop-i.invariant.image c.deref.ensures.value c.in_ok-advance.ensures.image c.in_ok-advance.ensures.others;
  stable = λ none. image_step_by (λ held bytes. bytes ≡ held.stable) c.args.first.now c.loop-i.files.items c.advance.new.files.items c.args.calls.now c.args.kept.now c.loop-i.i _ c.index-kept-i.result _
      (omega arith) c.requires.paired (get_or_default c.args.calls.now c.loop-i.i _ _ (omega arith)) c.index-kept-i.is
      (c.loop-i.invariant.stable none) c.deref.ensures.value (c.in_ok-advance.ensures.stable (c.tear_of-tear.ensures none)) c.in_ok-advance.ensures.others;
}
