use Rattle.std.proofs.Common.{◌≡◌, ◌%◌, ◌^◌, [], ◌∷◌, drop, true, false, refl, arith, length-drop}
use Rattle.gor_times.proofs.Fields.{field_begins}
use Rattle.gor_times.proofs.Readings.{near_change, near_longer}
use Rattle.gor_times.proofs.change.read_near.Goals as goal

pub returns-then-value-eq-NO_CHANGE-clause-err : goal.returns-then-value-eq-NO_CHANGE-clause-err
returns-then-value-eq-NO_CHANGE-clause-err c =
    let all = c.args.bits.now.bits in
    let begins = field_begins all c.args.at 9 7 c.in-Some.code (true ∷ false ∷ []) c.in-Some.ensures.value refl c.requires in
    let is : c.in-Some.code % 2 ^ 7 ≡ 63 = c.if-value-eq-NO_CHANGE.true in
    (refl, near_longer (drop c.args.at all) (rw is at begins))

pub returns-clause-ok : goal.returns-clause-ok
returns-clause-ok c =
    let all = c.args.bits.now.bits in
    let s = c.in-Some.ensures.value in
    let begins = field_begins all c.args.at 9 7 c.in-Some.code (true ∷ false ∷ []) s refl c.requires in
    near_change (drop c.args.at all) (c.in-Some.code % 128) (omega arith) c.if-value-eq-NO_CHANGE.false begins (omega (arith, s.within, length-drop c.args.at all))
