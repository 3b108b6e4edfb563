use Rattle.std.proofs.Common.{refl, arith, length-drop}
use Rattle.gor_values.proofs.Readings.{held_changed, held_wrong, short_held}
use Rattle.gor_values.proofs.change.read_held.Goals as goal

pub returns-in_default-clause-err : goal.returns-in_default-clause-err
returns-in_default-clause-err c =
    let all = c.args.bits.now.bits in
    (refl, short_held all c.args.at (record { lead = c.args.held.lead; len = c.args.held.len }) c.requires (omega (arith, c.in_default.ensures.none, length-drop c.args.at all)))

pub returns-then-piece-eq0-clause-err : goal.returns-then-piece-eq0-clause-err
returns-then-piece-eq0-clause-err c =
    (refl, held_wrong c.args.bits.now.bits c.args.at (record { lead = c.args.held.lead; len = c.args.held.len }) c.in-Some.piece c.requires c.in-Some.ensures.value c.args.held.inside c.if-piece-eq0.true)

pub returns-clause-ok : goal.returns-clause-ok
returns-clause-ok c =
    let other = c.if-piece-eq0.false in
    held_changed c.args.bits.now.bits c.args.at (record { lead = c.args.held.lead; len = c.args.held.len }) c.in-Some.piece c.requires c.in-Some.ensures.value c.args.held.inside _ (omega arith) refl
