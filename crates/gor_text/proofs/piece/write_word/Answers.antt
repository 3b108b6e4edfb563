use Rattle.std.proofs.Common.{◌≡◌, ◌+◌, ◌-◌, ◌∙◌, arith}
use Rattle.std.proofs.lemmas.List.{length-set}
use Rattle.gor_text.proofs.Spellings.{digit_written}
use Rattle.gor_text.proofs.piece.write_word.Goals as goal

pub loop-left-preserved : goal.loop-left-preserved
loop-left-preserved c =
    let l = c.loop-left in
    let at = c.args.start + (l.left - 1) in
    let next : at + 1 ≡ c.args.start + l.left = omega arith in
    let long = l.invariant.1 in (
      omega arith,
      length-set l.bytes at _ ∙ long,
      rw next at (digit_written l.left l.rest at l.bytes (omega arith) (omega arith)) ∙ l.invariant.2,
    )
