use Rattle.std.proofs.Common.{drop}
use Rattle.gor_cell.proofs.Copies.{Pending}
use Rattle.gor_cell.proofs.blocks.copy_later.Given as goal

abbrev pub invariant-loop-block : goal.invariant-loop-block
invariant-loop-block l = Pending l.first l.last l.blocks l.fn.copies.items (drop l.block-index l.blocks) l.copies.items
