use Rattle.std.proofs.Common.{length}
use Rattle.gor_cell.specs.Blocks.{Trimmed}
use Rattle.gor_cell.proofs.blocks.drop_empty.Given as goal

abbrev pub invariant-loop-later : goal.invariant-loop-later
invariant-loop-later l = Trimmed l.fn.later.items l.later.items

abbrev pub decreases-loop-later : goal.decreases-loop-later
decreases-loop-later l = length l.later.items
