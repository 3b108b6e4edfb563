use Rattle.std.proofs.Common.{◌≡◌, map, take, length}
use Rattle.gor_recover.specs.Recovered.{keyed_row}
use Rattle.gor_store.specs.Series.{CellsStand}
use Rattle.gor_store.proofs.cells.cells_of.Given as goal

abbrev pub invariant-loop-row : goal.invariant-loop-row
invariant-loop-row l = record {
  count : length l.cells.items ≡ l.slots;
  stand : CellsStand (map keyed_row (take l.row-index l.rows)) l.cells.items;
}
