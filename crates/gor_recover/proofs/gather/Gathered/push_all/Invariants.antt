use Rattle.std.proofs.Common.{◌≡◌, drop}
use Rattle.gor_recover.specs.Gathering.{with_points}
use Rattle.gor_recover.proofs.gather.Gathered.push_all.Given as goal

abbrev pub invariant-loop-point : goal.invariant-loop-point
invariant-loop-point l = record {
  whole : with_points l.spot l.self (drop l.point-index l.points) ≡ with_points l.spot l.initial.self l.points;
  uid : l.self.uid ≡ l.initial.self.uid;
}
