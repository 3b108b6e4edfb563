use Rattle.std.proofs.Common.{List, ◌∷◌, ◌++◌, reverse, ap, sym, ◌∙◌}
use Rattle.std.proofs.lemmas.List.{append-nil}
use Rattle.std.specs.Prelude.{filter}
use Rattle.gor_model.specs.declared.point.Point.{Point}
use Rattle.gor_model.specs.Answers.{in_range}
use Rattle.gor_block.proofs.MarkLaws.{mark_of-none}
use Rattle.gor_block.proofs.DecodedLaws.{decoded_none}
use Rattle.gor_block.proofs.Readings.{read_none, read_more, next_there}
use Rattle.gor_block.proofs.Between.{between_more, between_end}
use Rattle.gor_block.proofs.reading.add_between.Goals as goal

pub loop-init : goal.loop-init
loop-init c =
    let r = in_range c.args.from c.args.to in
    record {
      read = read_none c.args.unit c.args.window c.args.bits.now.bits c.new-running.result (c.new-running.ensures ∙ sym (mark_of-none c.args.unit c.args.window));
      found = sym (ap {B = List Point} (λ (xs : List Point). c.args.found.now ++ filter r (reverse xs)) (decoded_none c.args.unit c.args.window c.args.bits.now.bits) ∙ append-nil c.args.found.now);
    }

pub unreachable-requires : goal.unreachable-requires
unreachable-requires c =
    let n = next_there c.args.unit c.args.window c.loop.counter c.args.count c.args.bits.now.bits c.loop.at c.loop.running c.loop-test.true c.requires c.loop.invariant.read in
    c.in_default.ensures.found n.0 n.1.allowed n.1.begins

pub returns-then-step-to : goal.returns-then-step-to
returns-then-step-to c =
    let r = read_more c.args.unit c.args.window c.loop.counter c.args.bits.now.bits c.loop.at c.loop.running c.in-Ok.step.point c.in-Ok.step.next c.in-Ok.step.after c.loop.invariant.read c.in-Ok.ensures.ok in
    between_end c.args.unit c.args.window c.args.from c.args.to c.loop.counter c.args.count c.args.bits.now.bits c.in-Ok.step.point c.args.found.now c.loop.found c.loop-test.true c.requires r.more c.if-step-to.true c.loop.invariant.found

pub loop-preserved : goal.loop-preserved
loop-preserved c =
    let r = read_more c.args.unit c.args.window c.loop.counter c.args.bits.now.bits c.loop.at c.loop.running c.in-Ok.step.point c.in-Ok.step.next c.in-Ok.step.after c.loop.invariant.read c.in-Ok.ensures.ok in
    record {
      read = r.read;
      found = between_more c.args.unit c.args.window c.args.from c.args.to c.loop.counter c.args.bits.now.bits c.in-Ok.step.point c.args.found.now c.loop.found c.add_inside.new.found r.more c.loop.invariant.found c.in_ok-add_inside.ensures;
    }
