use Rattle.std.proofs.Common.{subst, arith}
use Rattle.gor_store.specs.Series.{AreVacant}
use Rattle.gor_store.proofs.cells.vacant_cells.Goals as goal

pub returns : goal.returns
returns c = subst (λ n. AreVacant n c.loop-slot.cells.items) (let ended = c.loop-slot-test.false in omega (arith, ended, c.loop-slot.auto._slot-end)) c.loop-slot.invariant
