use Rattle.std.proofs.Common.{◌%◌, [], ◌∷◌, drop, true, refl, arith, inl, inr, length-drop}
use Rattle.std.proofs.lemmas.Bool.{cases_lt}
use Rattle.gor_times.proofs.Fields.{field_begins}
use Rattle.gor_times.proofs.Readings.{rise_change, fall_change, rise_longer, fall_longer}
use Rattle.gor_times.proofs.change.read_whole.Goals as goal

pub returns-then-value-le2048-clause-err : goal.returns-then-value-le2048-clause-err
returns-then-value-le2048-clause-err c =
    let all = c.args.bits.now.bits in
    let v = c.in-Some.code % 4294967296 in
    let begins = field_begins all c.args.at 36 32 c.in-Some.code (true ∷ true ∷ true ∷ true ∷ []) c.in-Some.ensures.value refl c.requires in (
      refl,
      elim (cases_lt 2048 v) [
        | inl large ↦ fall_longer (drop c.args.at all) v (omega (arith, c.then-value-le2048.either)) (omega arith) begins
        | inr small ↦ rise_longer (drop c.args.at all) v small begins
      ],
    )

pub returns-then-value-lt2147483648-clause-ok : goal.returns-then-value-lt2147483648-clause-ok
returns-then-value-lt2147483648-clause-ok c =
    let all = c.args.bits.now.bits in
    let s = c.in-Some.ensures.value in
    let begins = field_begins all c.args.at 36 32 c.in-Some.code (true ∷ true ∷ true ∷ true ∷ []) s refl c.requires in
    rise_change (drop c.args.at all) (c.in-Some.code % 4294967296) (omega arith) (omega arith) begins (omega (arith, s.within, length-drop c.args.at all))

pub returns-else-value-lt2147483648-clause-ok : goal.returns-else-value-lt2147483648-clause-ok
returns-else-value-lt2147483648-clause-ok c =
    let all = c.args.bits.now.bits in
    let s = c.in-Some.ensures.value in
    let begins = field_begins all c.args.at 36 32 c.in-Some.code (true ∷ true ∷ true ∷ true ∷ []) s refl c.requires in
    fall_change (drop c.args.at all) (c.in-Some.code % 4294967296) (omega arith) (omega arith) begins (omega (arith, s.within, length-drop c.args.at all))
