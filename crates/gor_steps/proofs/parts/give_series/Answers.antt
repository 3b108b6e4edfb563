use Rattle.std.proofs.Common.{◌<◌, sym, subst}
use Rattle.gor_model.specs.declared.start.Start.{Start}
use Rattle.gor_model.specs.Shares.{series_share}
use Rattle.gor_hall.specs.Passes.{view}
use Rattle.gor_steps.proofs.PartLaws.{gives_series}
use Rattle.gor_steps.proofs.parts.give_series.Goals as goal

pub give-requires-clause-stands : goal.give-requires-clause-stands
give-requires-clause-stands g c =
    let v = view c.args.pass.now in
    let low : c.args.slot < v.start.slots = subst (λ (z : Start). c.args.slot < z.slots) (sym c.requires.pass.0.start) c.requires.slot in
    gives_series g.V.Thing.stands v.start c.args.slot c.series_object.result c.series_object.ensures low v.at c.of_series.result
    (g.met.V.Parts.series_out v.start c.series_object.result c.of_series.result c.args.cell (series_share v.start v.at c.args.slot) c.of_series.ensures c.requires.stands)
