use Rattle.std.proofs.Common.{◌≡◌, drop}
use Rattle.gor_cell.proofs.Moves.{Counted}
use Rattle.gor_cell.proofs.blocks.count_leading.Given as goal

abbrev pub invariant-loop-block : goal.invariant-loop-block
invariant-loop-block l = (l.count ≡ l.block-index) × Counted l.window l.later (drop l.block-index l.later) l.count
