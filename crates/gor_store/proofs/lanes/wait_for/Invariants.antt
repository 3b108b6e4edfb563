use Rattle.std.proofs.Common.{[]}
use Rattle.gor_store.specs.Lines.{RestsAgain, HasRun}
use Rattle.gor_store.proofs.lanes.wait_for.Given as goal

abbrev pub invariant-loop : goal.invariant-loop
invariant-loop g l = RestsAgain l.shard 0 l.initial.pass l.pass × HasRun l.initial.pass l.pass []
