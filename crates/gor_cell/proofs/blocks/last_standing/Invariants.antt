use Rattle.std.proofs.Common.{◌≡◌}
use Rattle.gor_cell.specs.Packed.{points_in, standing, last_time}
use Rattle.gor_cell.proofs.blocks.last_standing.Given as goal

-- the places behind have no point
abbrev pub invariant-loop-place : goal.invariant-loop-place
invariant-loop-place l = last_time (points_in (standing l.places)) ≡ last_time (points_in (standing l.place-iterator.iter.rest.now))
