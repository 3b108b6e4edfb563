use Rattle.std.proofs.Common.{◌≡◌, ◌+◌, ◌++◌, map, reverse}
use Rattle.std.specs.Prelude.{vec_len, vec_capacity}
use Rattle.gor_plain.specs.Lanes.{pass_of}
use Rattle.gor_plain.proofs.lanes.seat_lanes.Given as goal

abbrev pub invariant-loop-pass : goal.invariant-loop-pass
invariant-loop-pass l =
    (map pass_of l.lanes.items ++ reverse l.passes.items ≡ reverse l.initial.passes.items) × (vec_len l.lanes + vec_len l.passes ≡ vec_len l.initial.passes) × (vec_capacity l.lanes ≡ vec_capacity l.initial.lanes) × (vec_capacity l.passes ≡ vec_capacity l.initial.passes)

abbrev pub decreases-loop-pass : goal.decreases-loop-pass
decreases-loop-pass l = vec_len l.passes
