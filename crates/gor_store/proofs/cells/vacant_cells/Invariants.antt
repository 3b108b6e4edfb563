use Rattle.gor_store.specs.Series.{AreVacant}
use Rattle.gor_store.proofs.cells.vacant_cells.Given as goal

abbrev pub invariant-loop-slot : goal.invariant-loop-slot
invariant-loop-slot l = AreVacant l._slot l.cells.items
