use Rattle.std.proofs.Common.{◌<◌, ◌≤◌, ◌-◌, take, drop, length}
use Rattle.std.specs.List.{AllByRecursion}
use Rattle.gor_recover.proofs.ranges.below.Given as goal

abbrev pub decreases-loop-low : goal.decreases-loop-low
decreases-loop-low l = l.high - l.low

abbrev pub invariant-loop-low : goal.invariant-loop-low
invariant-loop-low l = record {
  order : l.low ≤ l.high;
  within : l.high ≤ length l.ranges;
  below : AllByRecursion (λ r. r.last < l.number) (take l.low l.ranges);
  beyond : AllByRecursion (λ r. l.number ≤ r.last) (drop l.high l.ranges);
}
