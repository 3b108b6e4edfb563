use Rattle.gor_text.specs.declared.workload.Line.TheVariants as line_
use Rattle.gor_store.proofs.RunLaws.{on_err_always}
use Rattle.gor_store.proofs.LineLaws.{told_some}
use Rattle.gor_store.proofs.lines.serve_del.Goals as goal

pub returns-clause-err : goal.returns-clause-err
returns-clause-err g c = on_err_always c.tell.result (told_some (line_.Del c.args.name.now) c.args.pass.now c.answer_del.new.pass c.in_ok-what.what c.in_ok-what.ensures.told)
