use Rattle.std.proofs.lemmas.Result.{IfOk-weaker}
use Rattle.gor_steps.proofs.PauseLaws.{read_from}
use Rattle.gor_steps.proofs.gets.read_at.Goals as goal

pub returns-clause-paused : goal.returns-clause-paused
returns-clause-paused g c =
    IfOk-weaker c.read_in.result _ _
    (λ read p. read_from (λ lane n. g.P.Pause.called c.args.pause.now lane c.args.place n) c.args.pass.now c.take_series-cell.new.pass c.read_in.new.pass c.take_series-cell.ensures.pass.1 c.take_series-cell.ensures.pass.3 read p)
    c.read_in.ensures.paused
