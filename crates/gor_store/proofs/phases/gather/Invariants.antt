use Rattle.gor_store.proofs.Gathering.{AreGathered}
use Rattle.gor_store.proofs.phases.gather.Given as goal

abbrev pub invariant-loop-lane : goal.invariant-loop-lane
invariant-loop-lane l = AreGathered l.initial.lanes l.lane-index l.lanes l.told.items
