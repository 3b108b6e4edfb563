use Rattle.std.proofs.Common.{arith, ◌∙◌, refl}
use Rattle.gor_flush.specs.Dropping.{is_log_in}
use Rattle.gor_flush.proofs.Steps.{leaves_none, leaves_then}
use Rattle.gor_flush.proofs.Drops.{log_touched, log_gone}
use Rattle.gor_flush.proofs.dropping.clear_logs.Goals as goal

pub loop-log-init : goal.loop-log-init
loop-log-init g c = record {
  touched = λ t. leaves_none (is_log_in c.args.first c.args.end) (g.D.Disk.view c.args.disk.now);
  gone = λ t l low high. absurd (omega arith);
  faults = refl;
}

pub loop-log-preserved : goal.loop-log-preserved
loop-log-preserved g c = record {
  touched = λ t. leaves_then (is_log_in c.args.first c.args.end) _ _ _ (c.loop-log.invariant.touched t)
      (log_touched c.args.first c.args.end c.loop-log.log _ _ (omega (arith, c.loop-log.auto.log)) (omega (arith, c.loop-log-test.true)) (c.clear.ensures.touched t));
  gone = λ t. log_gone c.args.first c.loop-log.log _ _ (c.loop-log.invariant.gone t) (c.clear.ensures.touched t) (c.in_ok-clear.ensures.gone t);
  faults = c.in_ok-clear.ensures.cause ∙ c.loop-log.invariant.faults;
}

pub returns-in_err-clear-clause-touched : goal.returns-in_err-clear-clause-touched
returns-in_err-clear-clause-touched g c = λ t.
    leaves_then (is_log_in c.args.first c.args.end) _ _ _ (c.loop-log.invariant.touched t)
    (log_touched c.args.first c.args.end c.loop-log.log _ _ (omega (arith, c.loop-log.auto.log)) (omega (arith, c.loop-log-test.true)) (c.clear.ensures.touched t))
