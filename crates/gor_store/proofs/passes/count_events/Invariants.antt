use Rattle.std.proofs.Common.{◌≡◌, ◌*◌, ◌^◌, ◌≤◌, length, take}
use Rattle.std.specs.Prelude.{sum_by}
use Rattle.gor_hall.specs.Passes.{made}
use Rattle.gor_store.proofs.passes.count_events.Given as goal

abbrev pub invariant-loop-lane : goal.invariant-loop-lane
invariant-loop-lane l = record {
  so_far : l.events ≡ sum_by (λ lane. length (made lane.pass)) (take l.lane-index l.lanes);
  few : l.events ≤ l.lane-index * 2 ^ 40;
}
