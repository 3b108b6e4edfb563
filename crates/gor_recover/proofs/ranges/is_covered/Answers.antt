use Rattle.std.proofs.Common.{◌≡◌, false, length, sym, ◌∙◌, arith}
use Rattle.std.specs.Prelude.{nat_lt}
use Rattle.std.specs.List.{list_any}
use Rattle.gor_recover.specs.Ranges.{has_number}
use Rattle.gor_recover.proofs.Covers.{covers, decided_at, decided_end, late_or}
use Rattle.gor_recover.proofs.ranges.is_covered.Goals as goal

pub returns-then-at-ranges : goal.returns-then-at-ranges
returns-then-at-ranges c =
    sym (late_or c.args.number c.args.upto (list_any (has_number c.args.number) c.args.ranges.now) c.if-number-upto.false
    ∙ (covers 0 c.args.number c.below-at.result c.args.ranges.now c.requires.rise c.below-at.ensures.below c.below-at.ensures.beyond
    ∙ decided_at c.args.number c.below-at.result c.args.ranges.now _ c.if-at-ranges.true))

pub returns-else-at-ranges : goal.returns-else-at-ranges
returns-else-at-ranges c =
    let late : nat_lt c.below-at.result (length c.args.ranges.now) ≡ false = (let h = c.if-at-ranges.false in grind arith) in
    late ∙ sym (late_or c.args.number c.args.upto (list_any (has_number c.args.number) c.args.ranges.now) c.if-number-upto.false
    ∙ (covers 0 c.args.number c.below-at.result c.args.ranges.now c.requires.rise c.below-at.ensures.below c.below-at.ensures.beyond
    ∙ decided_end c.args.number c.below-at.result c.args.ranges.now c.if-at-ranges.false))
