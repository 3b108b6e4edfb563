use Rattle.gor_plain.specs.Lanes.{IsBack}
use Rattle.gor_plain.proofs.lanes.put_all.Given as goal

abbrev pub invariant-loop-word : goal.invariant-loop-word
invariant-loop-word g l = IsBack l.hall l.initial.pass l.pass
