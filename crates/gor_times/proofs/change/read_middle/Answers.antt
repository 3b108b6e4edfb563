use Rattle.std.proofs.Common.{◌%◌, ◌<◌, ◌⊎◌, [], ◌∷◌, drop, true, false, refl, arith, inl, inr, length-drop}
use Rattle.std.proofs.lemmas.Bool.{cases_lt}
use Rattle.gor_times.proofs.Fields.{field_begins}
use Rattle.gor_times.proofs.Readings.{middle_change, middle_longer}
use Rattle.gor_times.proofs.change.read_middle.Goals as goal

pub returns-then-value-le319-clause-err : goal.returns-then-value-le319-clause-err
returns-then-value-le319-clause-err c =
    let all = c.args.bits.now.bits in
    let begins = field_begins all c.args.at 12 9 c.in-Some.code (true ∷ true ∷ false ∷ []) c.in-Some.ensures.value refl c.requires in
    (refl, middle_longer (drop c.args.at all) (c.in-Some.code % 512) (omega arith) (omega arith) begins)

pub returns-clause-ok : goal.returns-clause-ok
returns-clause-ok c =
    let all = c.args.bits.now.bits in
    let s = c.in-Some.ensures.value in
    let v = c.in-Some.code % 512 in
    let begins = field_begins all c.args.at 12 9 c.in-Some.code (true ∷ true ∷ false ∷ []) s refl c.requires in
    let other : (v < 192) ⊎ (319 < v) = elim (cases_lt v 192) [ inl under ↦ inl under | inr some ↦ inr (grind arith) ] in
    middle_change (drop c.args.at all) v (omega arith) other begins (omega (arith, s.within, length-drop c.args.at all))
