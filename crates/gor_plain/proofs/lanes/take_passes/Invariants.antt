use Rattle.std.proofs.Common.{◌≡◌, ◌+◌, ◌++◌, map, reverse}
use Rattle.std.specs.Prelude.{vec_len, vec_capacity}
use Rattle.gor_plain.specs.Lanes.{pass_of}
use Rattle.gor_plain.proofs.lanes.take_passes.Given as goal

abbrev pub invariant-loop-lane : goal.invariant-loop-lane
invariant-loop-lane l =
    (l.passes.items ++ reverse (map pass_of l.lanes.items) ≡ reverse (map pass_of l.initial.lanes.items)) × (vec_len l.passes + vec_len l.lanes ≡ vec_len l.initial.lanes) × (vec_capacity l.passes ≡ vec_capacity l.initial.passes)

abbrev pub decreases-loop-lane : goal.decreases-loop-lane
decreases-loop-lane l = vec_len l.lanes
