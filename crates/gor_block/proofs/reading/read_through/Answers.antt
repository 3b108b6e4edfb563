use Rattle.std.proofs.Common.{sym, ◌∙◌}
use Rattle.std.proofs.lemmas.Result.{err_from_is_err_and}
use Rattle.gor_block.proofs.MarkLaws.{mark_of-none}
use Rattle.gor_block.proofs.Readings.{read_none, read_more, next_there, no_code}
use Rattle.gor_block.proofs.reading.read_through.Goals as goal

pub loop-init : goal.loop-init
loop-init c = read_none c.args.unit c.args.window c.args.bits.now.bits c.new-running.result (c.new-running.ensures ∙ sym (mark_of-none c.args.unit c.args.window))

pub returns-in_err-step-clause-err : goal.returns-in_err-step-clause-err
returns-in_err-step-clause-err c =
    let e = err_from_is_err_and c.from_residual.result c.from_residual.ensures.1 in
    rw (e.1, e.2)
    (no_code c.args.unit c.args.window c.loop.counter c.args.count c.args.bits.now.bits c.loop.at c.loop.running _ c.loop-test.true c.loop.invariant c.in_err-step.ensures.err)

pub loop-preserved : goal.loop-preserved
loop-preserved c =
    (read_more c.args.unit c.args.window c.loop.counter c.args.bits.now.bits c.loop.at c.loop.running c.in_ok-step.step.point c.in_ok-step.step.next c.in_ok-step.step.after c.loop.invariant c.in_ok-step.ensures.ok).read

pub returns-in_err-step-clause-found : goal.returns-in_err-step-clause-found
returns-in_err-step-clause-found c = λ whole.
    let n = next_there c.args.unit c.args.window c.loop.counter c.args.count c.args.bits.now.bits c.loop.at c.loop.running c.loop-test.true whole c.loop.invariant in
    absurd (c.in_err-step.ensures.found n.0 n.1.allowed n.1.begins)
