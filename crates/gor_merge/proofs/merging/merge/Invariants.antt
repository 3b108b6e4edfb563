-- So many points of each list are merged.
use Rattle.std.proofs.Common.{length}
use Rattle.gor_model.specs.Merges.{placed_from}
use Rattle.gor_merge.specs.Heads.{left}
use Rattle.gor_merge.proofs.MergeSteps.{Merging}
use Rattle.gor_merge.proofs.merging.merge.Given as goal

abbrev pub invariant-loop-next : goal.invariant-loop-next
invariant-loop-next l = Merging l.lists l.taken.items l.tournament l.merged.items

abbrev pub decreases-loop-next : goal.decreases-loop-next
decreases-loop-next l = length (placed_from 0 (left l.taken.items l.lists))
