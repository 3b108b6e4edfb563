use Rattle.gor_ring.proofs.Shifts.{Shifted}
use Rattle.gor_ring.proofs.ring.shift.Given as goal

abbrev pub invariant-loop : goal.invariant-loop
invariant-loop g l = Shifted l.counter l.initial.places.items l.places.items
