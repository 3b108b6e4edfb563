use Rattle.std.proofs.Common.{◌<◌, ◌+◌, sym, subst}
use Rattle.gor_model.specs.declared.start.Start.{Start}
use Rattle.gor_model.specs.Shares.{series_share}
use Rattle.gor_hall.specs.Passes.{view}
use Rattle.gor_steps.proofs.PartLaws.{took_series}
use Rattle.gor_steps.proofs.parts.take_series.Goals as goal

pub into_series-requires : goal.into_series-requires
into_series-requires g c =
    let w = view c.take.new.pass in
    let low : c.args.slot < w.start.slots = subst (λ (z : Start). c.args.slot < z.slots) (sym c.take.ensures.pass.0.start) c.requires.slot in
    g.met.V.Parts.some_series w.start (c.args.slot + 2) c.take.result (series_share w.start w.at c.args.slot)
    (took_series g.V.Thing.stands (view c.args.pass.now) w c.series_object.result c.args.slot c.take.result c.series_object.ensures low c.take.ensures.taken)

pub returns-clause-stands : goal.returns-clause-stands
returns-clause-stands g c =
    let w = view c.take.new.pass in
    let low : c.args.slot < w.start.slots = subst (λ (z : Start). c.args.slot < z.slots) (sym c.take.ensures.pass.0.start) c.requires.slot in
    g.met.V.Parts.series_in w.start (c.args.slot + 2) c.take.result c.into_series.result (series_share w.start w.at c.args.slot) c.into_series.ensures
    (took_series g.V.Thing.stands (view c.args.pass.now) w c.series_object.result c.args.slot c.take.result c.series_object.ensures low c.take.ensures.taken)
