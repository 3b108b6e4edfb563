use Rattle.std.proofs.Common.{drop}
use Rattle.std.specs.Prelude.{map}
use Rattle.gor_text.specs.Workloads.{phase_lines}
use Rattle.gor_run.proofs.PhaseSteps.{PhasesSoFar}
use Rattle.gor_run.proofs.serving.write_phases.Given as goal

abbrev pub invariant-loop-phase : goal.invariant-loop-phase
invariant-loop-phase g l =
    PhasesSoFar l.fn.store l.store (g.K.Sink.held l.fn.sink) (g.K.Sink.held l.sink) (g.K.Sink.faults l.fn.sink) (g.K.Sink.faults l.sink)
    (drop l.phase-index (map phase_lines l.phases)) (map phase_lines l.phases)
