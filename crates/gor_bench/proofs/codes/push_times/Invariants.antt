use Rattle.gor_bench.specs.Steps.{IsBefore}
use Rattle.gor_bench.proofs.codes.push_times.Given as goal

abbrev pub invariant-loop-late : goal.invariant-loop-late
invariant-loop-late l = IsBefore l.state l.window l.step
