-- The points of the lists so far are counted.
use Rattle.std.proofs.Common.{◌≡◌, length, take}
use Rattle.std.specs.List.{sum_by}
use Rattle.gor_merge.proofs.merging.count_of.Given as goal

abbrev pub invariant-loop-points : goal.invariant-loop-points
invariant-loop-points l = l.count ≡ sum_by length (take l.points-index l.lists)
