use Rattle.std.proofs.Common.{arith}
use Rattle.std.proofs.lemmas.Result.{on_ok_weaker, on_err_weaker}
use Rattle.gor_text.specs.declared.answer.Reason.TheVariants as reason
use Rattle.gor_text.specs.declared.answer.What.TheVariants as what_
use Rattle.gor_text.specs.declared.workload.Line.TheVariants as line_
use Rattle.gor_store.proofs.RunLaws.{on_err_always}
use Rattle.gor_store.proofs.LineLaws.{told_shard, told_some, flush_begun, serves_one, serves_flush}
use Rattle.gor_store.proofs.lines.serve_flush.Goals as goal

pub returns-then-number-gt0-clause-served : goal.returns-then-number-gt0-clause-served
returns-then-number-gt0-clause-served g c = on_ok_weaker c.tell.result
    (serves_one (line_.Flush c.args.number) c.args.pass.now c.args.pass.now (what_.Refused reason.Shard) c.lane-lane.result c.args.answers.now.items c.tell.new.answers.items c.lane-lane.ensures
    (told_shard c.args.shard.now c.args.number c.args.pass.now c.requires.rests c.if-number-gt0.true)) c.tell.ensures

pub returns-clause-served : goal.returns-clause-served
returns-clause-served g c = let low = c.if-number-gt0.false in on_ok_weaker c.tell_flush.result
    (serves_flush c.args.number c.args.pass.now c.tell_flush.new.pass c.args.answers.now.items c.tell_flush.new.answers.items (omega arith)) c.tell_flush.ensures.told

pub returns-then-number-gt0-clause-err : goal.returns-then-number-gt0-clause-err
returns-then-number-gt0-clause-err g c = on_err_always c.tell.result
    (told_some (line_.Flush c.args.number) c.args.pass.now c.args.pass.now (what_.Refused reason.Shard) (told_shard c.args.shard.now c.args.number c.args.pass.now c.requires.rests c.if-number-gt0.true))

pub returns-clause-err : goal.returns-clause-err
returns-clause-err g c = let low = c.if-number-gt0.false in on_err_weaker c.tell_flush.result
    (flush_begun c.args.number c.args.pass.now c.tell_flush.new.pass (omega arith)) c.tell_flush.ensures.err
