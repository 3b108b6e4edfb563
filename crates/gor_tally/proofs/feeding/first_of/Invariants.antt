-- So many points of the page are copied.
use Rattle.std.proofs.Common.{◌≡◌, take}
use Rattle.gor_tally.proofs.feeding.first_of.Given as goal

abbrev pub invariant-loop-point : goal.invariant-loop-point
invariant-loop-point l = l.copy ≡ take l.point-index l.first
