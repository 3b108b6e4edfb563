use Rattle.std.proofs.Common.{◌+◌, ◌-◌, ◌%◌, ◌^◌, ◌<◌, ◌⊎◌, sym, ◌∙◌, arith, inl, inr}
use Rattle.gor_bits.specs.Spelled.{spelled}
use Rattle.gor_times.proofs.Fields.{field_spelled}
use Rattle.gor_times.proofs.Codes.{code_same, code_near, code_middle, code_far, code_whole}
use Rattle.gor_times.proofs.change.code_of.Goals as goal
use Rattle.gor_times.proofs.change.code_of.Goals.{else-earlier-later-2-via-then-earlier-later-2+else-later-earlier, else-earlier-later-2-via-else-earlier-later-2, else-earlier-later-3-via-then-earlier-later-3+else-later-earlier-2, else-earlier-later-3-via-else-earlier-later-3, else-earlier-later-4-via-then-earlier-later-4+else-later-earlier-3, else-earlier-later-4-via-else-earlier-later-4}

pub returns-then-earlier-later-clause-code : goal.returns-then-earlier-later-clause-code
unfolding spelled
returns-then-earlier-later-clause-code c = sym (code_same c.args.earlier c.args.later c.if-earlier-later.true)

pub returns-then-later-earlier-clause-code : goal.returns-then-later-earlier-clause-code
unfolding spelled
returns-then-later-earlier-clause-code c =
    let d = c.args.earlier in
    let e = c.args.later in
    field_spelled 2 7 2 (e + 63 - d) (omega arith) ∙ sym (code_near d e c.if-earlier-later.false c.if-earlier-later-2.true c.if-later-earlier.true)

pub returns-then-later-earlier-2-clause-code : goal.returns-then-later-earlier-2-clause-code
unfolding spelled
returns-then-later-earlier-2-clause-code c =
    let d = c.args.earlier in
    let e = c.args.later in
    let outside : (e + 63 < d) ⊎ (d + 64 < e) = elim c.else-earlier-later-2.branch [
      | else-earlier-later-2-via-then-earlier-later-2+else-later-earlier w ↦ inr w.if-later-earlier.false
      | else-earlier-later-2-via-else-earlier-later-2 w ↦ inl w.if-earlier-later-2.false
    ] in
    field_spelled 3 9 6 (e + 255 - d) (omega arith) ∙ sym (code_middle d e outside c.if-earlier-later-3.true c.if-later-earlier-2.true)

pub returns-then-later-earlier-3-clause-code : goal.returns-then-later-earlier-3-clause-code
unfolding spelled
returns-then-later-earlier-3-clause-code c =
    let d = c.args.earlier in
    let e = c.args.later in
    let outside : (e + 255 < d) ⊎ (d + 256 < e) = elim c.else-earlier-later-3.branch [
      | else-earlier-later-3-via-then-earlier-later-3+else-later-earlier-2 w ↦ inr w.if-later-earlier-2.false
      | else-earlier-later-3-via-else-earlier-later-3 w ↦ inl w.if-earlier-later-3.false
    ] in
    field_spelled 4 12 14 (e + 2047 - d) (omega arith) ∙ sym (code_far d e outside c.if-earlier-later-4.true c.if-later-earlier-3.true)

pub returns-clause-code : goal.returns-clause-code
unfolding spelled
returns-clause-code c =
    let d = c.args.earlier in
    let e = c.args.later in
    let outside : (e + 2047 < d) ⊎ (d + 2048 < e) = elim c.else-earlier-later-4.branch [
      | else-earlier-later-4-via-then-earlier-later-4+else-later-earlier-3 w ↦ inr w.if-later-earlier-3.false
      | else-earlier-later-4-via-else-earlier-later-4 w ↦ inl w.if-earlier-later-4.false
    ] in
    field_spelled 4 32 15 ((e + 2 ^ 32 - d) % 2 ^ 32) (omega arith) ∙ sym (code_whole d e outside)
