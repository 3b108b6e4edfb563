use Rattle.std.proofs.Common.{◌≡◌, []}
use Rattle.std.specs.Prelude.{map, replicate}
use Rattle.gor_text.proofs.workload.Phase.new.Given as goal

abbrev pub invariant-loop-lane : goal.invariant-loop-lane
invariant-loop-lane l = map (λ lane. lane.items) l.lanes.items ≡ replicate l._lane []
