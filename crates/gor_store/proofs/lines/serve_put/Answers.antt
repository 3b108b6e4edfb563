use Rattle.std.proofs.lemmas.Result.{on_ok_weaker, on_err_weaker}
use Rattle.gor_store.proofs.RunLaws.{on_err_always}
use Rattle.gor_store.proofs.LineLaws.{serves_put, serves_due, put_some, put_some_on}
use Rattle.gor_store.proofs.lines.serve_put.Goals as goal

pub returns-then-due-clause-served : goal.returns-then-due-clause-served
returns-then-due-clause-served g c = on_ok_weaker c.tell_flush.result
    (serves_due c.args.name.now c.args.time c.args.word c.args.pass.now c.answer_put.new.pass c.tell_flush.new.pass c.in_ok-what.field-0 c.lane-lane.result c.args.answers.now.items c.tell.new.answers.items c.tell_flush.new.answers.items
    c.lane-lane.ensures c.answer_put.ensures.rests.lane c.in_ok-what.ensures.told c.if-due.true c.in_ok-tell.ensures) c.tell_flush.ensures.told

pub returns-then-due-clause-err : goal.returns-then-due-clause-err
returns-then-due-clause-err g c = on_err_weaker c.tell_flush.result
    (put_some_on c.args.name.now c.args.time c.args.word c.args.pass.now c.answer_put.new.pass c.tell_flush.new.pass c.in_ok-what.field-0 c.answer_put.ensures.rests.lane c.in_ok-what.ensures.told c.if-due.true) c.tell_flush.ensures.err

pub returns-clause-served : goal.returns-clause-served
returns-clause-served g c = serves_put c.args.name.now c.args.time c.args.word c.args.pass.now c.answer_put.new.pass c.in_ok-what.field-0 c.lane-lane.result c.args.answers.now.items c.tell.new.answers.items
    c.lane-lane.ensures c.in_ok-what.ensures.told c.if-due.false c.in_ok-tell.ensures

pub returns-in_err-tell-clause-err : goal.returns-in_err-tell-clause-err
returns-in_err-tell-clause-err g c = on_err_always c.from_residual-in_err-tell.result
    (put_some c.args.name.now c.args.time c.args.word c.args.pass.now c.answer_put.new.pass c.in_ok-what.field-0 c.in_ok-what.ensures.told)
