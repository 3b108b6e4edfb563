use Rattle.std.proofs.Common.{drop}
use Rattle.gor_cell.specs.Packed.{standing}
use Rattle.gor_cell.proofs.Copies.{Pending}
use Rattle.gor_cell.proofs.blocks.copy_standing.Given as goal

abbrev pub invariant-loop-place : goal.invariant-loop-place
invariant-loop-place l = Pending l.first l.last (standing l.places) l.fn.copies.items (standing (drop l.place-index l.places)) l.copies.items
