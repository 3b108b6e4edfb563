use Rattle.gor_flush.proofs.FitTests.{fit_is_told}
use Rattle.gor_flush.proofs.Starting.{call_keeps, done_extends, step_keeps, taken_may_write}
use Rattle.gor_flush.proofs.flush_laws.laws.Goals as goal

pub returns-clause-may_write : goal.returns-clause-may_write
returns-clause-may_write c = taken_may_write

pub returns-clause-call : goal.returns-clause-call
returns-clause-call c = call_keeps

pub returns-clause-done : goal.returns-clause-done
returns-clause-done c = done_extends

pub returns-clause-step : goal.returns-clause-step
returns-clause-step c = step_keeps

pub returns-clause-fit : goal.returns-clause-fit
returns-clause-fit c = fit_is_told
