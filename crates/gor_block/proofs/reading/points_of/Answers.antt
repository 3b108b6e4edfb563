use Rattle.std.proofs.Common.{List, reverse, ap, sym, ◌∙◌}
use Rattle.gor_model.specs.declared.point.Point.{Point}
use Rattle.gor_block.proofs.MarkLaws.{mark_of-none}
use Rattle.gor_block.proofs.DecodedLaws.{decoded_none}
use Rattle.gor_block.proofs.Readings.{read_none, read_more, next_there, points_more}
use Rattle.gor_block.proofs.reading.points_of.Goals as goal

pub loop-init : goal.loop-init
loop-init c = record {
  read = read_none c.args.unit c.args.window c.args.bits.now.bits c.new-running.result (c.new-running.ensures ∙ sym (mark_of-none c.args.unit c.args.window));
  points = c.in_ok-points.ensures ∙ ap {B = List Point} (λ (xs : List Point). reverse xs) (sym (decoded_none c.args.unit c.args.window c.args.bits.now.bits));
}

pub unreachable-requires : goal.unreachable-requires
unreachable-requires c =
    let n = next_there c.args.unit c.args.window c.loop.counter c.args.count c.args.bits.now.bits c.loop.at c.loop.running c.loop-test.true c.requires c.loop.invariant.read in
    c.in_default.ensures.found n.0 n.1.allowed n.1.begins

pub loop-preserved : goal.loop-preserved
loop-preserved c =
    let r = read_more c.args.unit c.args.window c.loop.counter c.args.bits.now.bits c.loop.at c.loop.running c.in-Ok.step.point c.in-Ok.step.next c.in-Ok.step.after c.loop.invariant.read c.in-Ok.ensures.ok in
    record {
      read = r.read;
      points = points_more c.args.unit c.args.window c.loop.counter c.args.bits.now.bits c.in-Ok.step.point c.loop.points c.push.new.self r.more c.loop.invariant.points c.in_ok-push.ensures.ok;
    }
