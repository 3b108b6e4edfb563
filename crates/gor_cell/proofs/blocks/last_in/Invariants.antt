use Rattle.std.proofs.Common.{◌≡◌}
use Rattle.gor_cell.specs.Packed.{points_in, last_time}
use Rattle.gor_cell.proofs.blocks.last_in.Given as goal

-- the blocks behind have no point
abbrev pub invariant-loop-block : goal.invariant-loop-block
invariant-loop-block l = last_time (points_in l.blocks) ≡ last_time (points_in l.block-iterator.iter.rest.now)
