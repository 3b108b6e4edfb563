use Rattle.std.proofs.Common.{◌+◌, drop, arith}
use Rattle.std.specs.Prelude.{map}
use Rattle.gor_text.specs.Workloads.{phase_lines}
use Rattle.gor_run.specs.TakenLines.{IsTakenPhase}
use Rattle.gor_run.proofs.PhaseSteps.{here_mapped, all_gone, all_have, no_phases_yet, enough_left, still_left, still_same, one_phase, phase_in_part, no_memory, rose_since, all_phases, end_left}
use Rattle.gor_run.proofs.serving.write_phases.Goals as goal

pub loop-phase-init : goal.loop-phase-init
loop-phase-init g c =
    no_phases_yet c.args.store.now (g.K.Sink.held c.args.sink.now) (g.K.Sink.faults c.args.sink.now) (map phase_lines c.args.phases.now) c.requires.rests c.requires.fresh c.requires.left c.requires.few

pub answer_phase-requires-clause-rests : goal.answer_phase-requires-clause-rests
answer_phase-requires-clause-rests g c κs within = c.loop-phase.invariant.rests

pub answer_phase-requires-clause-taken : goal.answer_phase-requires-clause-taken
answer_phase-requires-clause-taken g c κs within =
    all_have IsTakenPhase (map phase_lines c.args.phases.now) (phase_lines c.phase-item.result) (drop (c.loop-phase.phase-index + 1) (map phase_lines c.args.phases.now)) c.loop-phase.phase-index c.requires.taken
    (here_mapped phase_lines c.args.phases.now c.loop-phase.phase-index c.phase-item.result c.loop-phase-test.true c.phase-item.is)

pub answer_phase-requires-clause-left : goal.answer_phase-requires-clause-left
answer_phase-requires-clause-left g c κs within =
    enough_left c.args.store.now c.loop-phase.store c.loop-phase.store (g.K.Sink.held c.args.sink.now) (g.K.Sink.held c.loop-phase.sink) (g.K.Sink.faults c.args.sink.now) (g.K.Sink.faults c.loop-phase.sink)
    (phase_lines c.phase-item.result) (drop (c.loop-phase.phase-index + 1) (map phase_lines c.args.phases.now)) (drop c.loop-phase.phase-index (map phase_lines c.args.phases.now)) (map phase_lines c.args.phases.now)
    (here_mapped phase_lines c.args.phases.now c.loop-phase.phase-index c.phase-item.result c.loop-phase-test.true c.phase-item.is) c.loop-phase.invariant

pub returns-in-Err-clause-rests : goal.returns-in-Err-clause-rests
returns-in-Err-clause-rests g c = c.answer_phase.ensures.rests

pub returns-in-Err-clause-same : goal.returns-in-Err-clause-same
returns-in-Err-clause-same g c =
    still_same c.args.store.now c.loop-phase.store c.answer_phase.new.store (g.K.Sink.held c.args.sink.now) (g.K.Sink.held c.loop-phase.sink) (g.K.Sink.faults c.args.sink.now) (g.K.Sink.faults c.loop-phase.sink)
    (phase_lines c.phase-item.result) (drop (c.loop-phase.phase-index + 1) (map phase_lines c.args.phases.now)) (drop c.loop-phase.phase-index (map phase_lines c.args.phases.now)) (map phase_lines c.args.phases.now)
    (here_mapped phase_lines c.args.phases.now c.loop-phase.phase-index c.phase-item.result c.loop-phase-test.true c.phase-item.is) c.loop-phase.invariant c.answer_phase.ensures.same c.answer_phase.ensures.left

pub returns-in-Err-clause-left : goal.returns-in-Err-clause-left
returns-in-Err-clause-left g c =
    still_left c.args.store.now c.loop-phase.store c.answer_phase.new.store (g.K.Sink.held c.args.sink.now) (g.K.Sink.held c.loop-phase.sink) (g.K.Sink.faults c.args.sink.now) (g.K.Sink.faults c.loop-phase.sink)
    (phase_lines c.phase-item.result) (drop (c.loop-phase.phase-index + 1) (map phase_lines c.args.phases.now)) (drop c.loop-phase.phase-index (map phase_lines c.args.phases.now)) (map phase_lines c.args.phases.now)
    (here_mapped phase_lines c.args.phases.now c.loop-phase.phase-index c.phase-item.result c.loop-phase-test.true c.phase-item.is) c.loop-phase.invariant c.answer_phase.ensures.same c.answer_phase.ensures.left

pub returns-in-Err-clause-written : goal.returns-in-Err-clause-written
returns-in-Err-clause-written g c = (
  no_memory c.args.store.now c.loop-phase.store c.answer_phase.new.store (g.K.Sink.held c.args.sink.now) (g.K.Sink.held c.loop-phase.sink) (g.K.Sink.faults c.args.sink.now) (g.K.Sink.faults c.loop-phase.sink)
      (phase_lines c.phase-item.result) (drop (c.loop-phase.phase-index + 1) (map phase_lines c.args.phases.now)) (drop c.loop-phase.phase-index (map phase_lines c.args.phases.now)) (map phase_lines c.args.phases.now)
      (here_mapped phase_lines c.args.phases.now c.loop-phase.phase-index c.phase-item.result c.loop-phase-test.true c.phase-item.is) c.loop-phase.invariant c.in-Err.ensures.err,
  c.loop-phase.invariant.quiet,
)

pub returns-in-Err-write_text-clause-rests : goal.returns-in-Err-write_text-clause-rests
returns-in-Err-write_text-clause-rests g c = c.answer_phase.ensures.rests

pub returns-in-Err-write_text-clause-same : goal.returns-in-Err-write_text-clause-same
returns-in-Err-write_text-clause-same g c =
    still_same c.args.store.now c.loop-phase.store c.answer_phase.new.store (g.K.Sink.held c.args.sink.now) (g.K.Sink.held c.loop-phase.sink) (g.K.Sink.faults c.args.sink.now) (g.K.Sink.faults c.loop-phase.sink)
    (phase_lines c.phase-item.result) (drop (c.loop-phase.phase-index + 1) (map phase_lines c.args.phases.now)) (drop c.loop-phase.phase-index (map phase_lines c.args.phases.now)) (map phase_lines c.args.phases.now)
    (here_mapped phase_lines c.args.phases.now c.loop-phase.phase-index c.phase-item.result c.loop-phase-test.true c.phase-item.is) c.loop-phase.invariant c.answer_phase.ensures.same c.answer_phase.ensures.left

pub returns-in-Err-write_text-clause-left : goal.returns-in-Err-write_text-clause-left
returns-in-Err-write_text-clause-left g c =
    still_left c.args.store.now c.loop-phase.store c.answer_phase.new.store (g.K.Sink.held c.args.sink.now) (g.K.Sink.held c.loop-phase.sink) (g.K.Sink.faults c.args.sink.now) (g.K.Sink.faults c.loop-phase.sink)
    (phase_lines c.phase-item.result) (drop (c.loop-phase.phase-index + 1) (map phase_lines c.args.phases.now)) (drop c.loop-phase.phase-index (map phase_lines c.args.phases.now)) (map phase_lines c.args.phases.now)
    (here_mapped phase_lines c.args.phases.now c.loop-phase.phase-index c.phase-item.result c.loop-phase-test.true c.phase-item.is) c.loop-phase.invariant c.answer_phase.ensures.same c.answer_phase.ensures.left

pub returns-in-Err-write_text-clause-written : goal.returns-in-Err-write_text-clause-written
returns-in-Err-write_text-clause-written g c = (
  phase_in_part c.args.store.now c.loop-phase.store c.answer_phase.new.store (g.K.Sink.held c.args.sink.now) (g.K.Sink.held c.loop-phase.sink) (g.K.Sink.faults c.args.sink.now) (g.K.Sink.faults c.loop-phase.sink)
      (phase_lines c.phase-item.result) (drop (c.loop-phase.phase-index + 1) (map phase_lines c.args.phases.now)) (drop c.loop-phase.phase-index (map phase_lines c.args.phases.now)) (map phase_lines c.args.phases.now)
      (here_mapped phase_lines c.args.phases.now c.loop-phase.phase-index c.phase-item.result c.loop-phase-test.true c.phase-item.is) c.loop-phase.invariant
      (g.K.Sink.held c.write_text.new.sink) c.in-Ok.text.items c.in-Ok.ensures.ok (rw c.deref.ensures.value at c.in-Err-write_text.ensures.part),
  rose_since c.args.store.now c.loop-phase.store c.answer_phase.new.store (g.K.Sink.held c.args.sink.now) (g.K.Sink.held c.loop-phase.sink) (g.K.Sink.faults c.args.sink.now) (g.K.Sink.faults c.loop-phase.sink)
      (phase_lines c.phase-item.result) (drop (c.loop-phase.phase-index + 1) (map phase_lines c.args.phases.now)) (drop c.loop-phase.phase-index (map phase_lines c.args.phases.now)) (map phase_lines c.args.phases.now)
      (here_mapped phase_lines c.args.phases.now c.loop-phase.phase-index c.phase-item.result c.loop-phase-test.true c.phase-item.is) c.loop-phase.invariant (g.K.Sink.faults c.write_text.new.sink) c.in-Err-write_text.ensures.failed,
)

pub loop-phase-preserved : goal.loop-phase-preserved
loop-phase-preserved g c =
    one_phase c.args.store.now c.loop-phase.store c.answer_phase.new.store (g.K.Sink.held c.args.sink.now) (g.K.Sink.held c.loop-phase.sink) (g.K.Sink.faults c.args.sink.now) (g.K.Sink.faults c.loop-phase.sink)
    (phase_lines c.phase-item.result) (drop (c.loop-phase.phase-index + 1) (map phase_lines c.args.phases.now)) (drop c.loop-phase.phase-index (map phase_lines c.args.phases.now)) (map phase_lines c.args.phases.now)
    (here_mapped phase_lines c.args.phases.now c.loop-phase.phase-index c.phase-item.result c.loop-phase-test.true c.phase-item.is) c.loop-phase.invariant c.answer_phase.ensures.same c.answer_phase.ensures.left
    (g.K.Sink.held c.write_text.new.sink) (g.K.Sink.faults c.write_text.new.sink) c.in-Ok.text.items c.answer_phase.ensures.rests c.in-Ok.ensures.ok
    (rw c.deref.ensures.value at c.in-Ok-write_text.ensures.whole) c.in-Ok-write_text.ensures.quiet

pub returns-clause-rests : goal.returns-clause-rests
returns-clause-rests g c = c.loop-phase.invariant.rests

pub returns-clause-same : goal.returns-clause-same
returns-clause-same g c = c.loop-phase.invariant.same

pub returns-clause-left : goal.returns-clause-left
returns-clause-left g c =
    end_left c.args.store.now c.loop-phase.store (g.K.Sink.held c.args.sink.now) (g.K.Sink.held c.loop-phase.sink) (g.K.Sink.faults c.args.sink.now) (g.K.Sink.faults c.loop-phase.sink)
    (drop c.loop-phase.phase-index (map phase_lines c.args.phases.now)) (map phase_lines c.args.phases.now) c.loop-phase.invariant

pub returns-clause-written : goal.returns-clause-written
returns-clause-written g c = (
  all_phases c.args.store.now c.loop-phase.store (g.K.Sink.held c.args.sink.now) (g.K.Sink.held c.loop-phase.sink) (g.K.Sink.faults c.args.sink.now) (g.K.Sink.faults c.loop-phase.sink)
      (drop c.loop-phase.phase-index (map phase_lines c.args.phases.now)) (map phase_lines c.args.phases.now) (all_gone phase_lines c.args.phases.now c.loop-phase.phase-index (omega (arith, c.loop-phase-test.false))) c.loop-phase.invariant,
  c.loop-phase.invariant.quiet,
)
