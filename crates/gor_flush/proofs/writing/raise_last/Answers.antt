use Rattle.std.proofs.Common.{vec_len, arith, refl, ◌-◌}
use Rattle.gor_flush.proofs.Tops.{raised_at}
use Rattle.gor_flush.proofs.writing.raise_last.Goals as goal

pub returns-in-Some : goal.returns-in-Some
returns-in-Some c =
    let some = c.in-Some.ensures.variant.0 refl in
    let long = c.args.tops.now.ok.0 in
    rw c.greater-last.ensures (raised_at c.args.top c.in-Some.last.now c.args.tops.now.items (vec_len c.args.tops.now - 1) (omega arith) c.in-Some.ensures.value)
