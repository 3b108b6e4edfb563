use Rattle.std.proofs.Common.{◌+◌, ◌<◌, sym, subst, ◌∙◌}
use Rattle.std.proofs.lemmas.Result.{IfOk-weaker}
use Rattle.gor_model.specs.declared.start.Start.{Start}
use Rattle.gor_hall.specs.Passes.{view, lane_of}
use Rattle.gor_steps.proofs.ViewLaws.{series_stays}
use Rattle.gor_steps.proofs.PauseLaws.{paused_then}
use Rattle.gor_steps.proofs.reads.read_series.Goals as goal

pub give_series-requires-clause-stands : goal.give_series-requires-clause-stands
give_series-requires-clause-stands g c =
    let low = subst (λ (z : Start). c.args.slot < z.slots) (sym c.requires.pass.0.start) c.requires.slot in
    series_stays (view c.args.pass.now) (view c.read_cell-read.new.pass) (c.read_cell-read.ensures.pass.0.start ∙ sym c.requires.pass.0.start) c.args.slot c.args.cell low
    (c.read_cell-read.ensures.shares (c.args.slot + 2) c.requires.pass.2) c.requires.stands

pub returns-clause-paused : goal.returns-clause-paused
returns-clause-paused g c =
    IfOk-weaker c.read_cell-read.result _ _
    (λ read p. paused_then (λ n. g.P.Pause.called c.args.pause.now (lane_of c.args.pass.now) c.args.place n) c.args.pass.now c.read_cell-read.new.pass c.give_series.new.pass read.number p c.give_series.ensures.pass.3)
    c.read_cell-read.ensures.paused
