use Rattle.std.proofs.lemmas.Result.{on_ok_weaker}
use Rattle.gor_store.proofs.RunLaws.{on_err_always}
use Rattle.gor_store.proofs.LineLaws.{told_flush, flush_some}
use Rattle.gor_store.proofs.lines.tell_flush.Goals as goal

pub returns-clause-told : goal.returns-clause-told
returns-clause-told g c = on_ok_weaker c.tell_reply.result
    (λ told. told_flush c.args.pass.now c.flush-reply.new.pass c.flush-reply.result c.lane-lane.result c.args.answers.now.items c.tell_reply.new.answers.items c.lane-lane.ensures c.flush-reply.ensures.events told) c.tell_reply.ensures

pub returns-clause-err : goal.returns-clause-err
returns-clause-err g c = on_err_always c.tell_reply.result (flush_some c.args.pass.now c.flush-reply.new.pass c.flush-reply.result c.flush-reply.ensures.events)
