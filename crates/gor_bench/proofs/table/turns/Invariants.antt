use Rattle.gor_bench.specs.Turns.{IsIdle}
use Rattle.gor_bench.proofs.table.turns.Given as goal

abbrev pub invariant-loop : goal.invariant-loop
invariant-loop g l = IsIdle l.hall l.pass
