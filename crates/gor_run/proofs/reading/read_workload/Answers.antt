use Rattle.std.proofs.Common.{subst}
use Rattle.gor_text.specs.Workloads.{IsFirstBad}
use Rattle.gor_run.specs.TakenLines.{is_taken_item}
use Rattle.gor_run.proofs.reading.read_workload.Goals as goal

pub returns-in-Err-Line-clause-fault : goal.returns-in-Err-Line-clause-fault
returns-in-Err-Line-clause-fault g c = record {
  input = c.in-Ok.input.items;
  read = c.in-Ok.ensures.whole;
  bad = subst (λ i. IsFirstBad is_taken_item i c.in-Err-Line.line) c.deref.ensures.value (c.in-Err-Line.ensures.bad c.in-Err-Line.line (cc));
}
