use Rattle.std.proofs.Common.{◌≡◌, ◌-◌, List, ◌++◌, Bool, length, ap, ap₂, sym, ◌∙◌}
use Rattle.gor_bits.specs.BitString.{BitString}
use Rattle.gor_bits.proofs.Words.{length-spelled}
use Rattle.gor_model.specs.Codes.{time_code}
use Rattle.gor_times.proofs.change.write_change.Goals as goal

pub returns : goal.returns
returns c =
    let old = c.args.bits.now in
    let code = c.code_of-code.result in
    let is = c.code_of-code.ensures.code in
    let count : code.count ≡ length (time_code c.args.earlier c.args.later) = sym (length-spelled code.count code.value) ∙ ap length is in
    c.push_reserved.ensures
    ∙ ap₂ {C = BitString} (λ (xs : List Bool) n. record { bits = old.bits ++ xs; spare = old.spare - n }) is count
