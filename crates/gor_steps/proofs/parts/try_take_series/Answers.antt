use Rattle.std.proofs.Common.{◌<◌, ◌+◌, ℕ, sym, ap, subst}
use Rattle.gor_model.specs.declared.start.Start.{Start}
use Rattle.gor_model.specs.Shares.{series_share}
use Rattle.gor_rule.specs.declared.view.View.{View}
use Rattle.gor_hall.specs.Passes.{view}
use Rattle.gor_steps.specs.Views.{Takes}
use Rattle.gor_steps.proofs.PartLaws.{took_series, takes_it, at_once}
use Rattle.gor_steps.proofs.parts.try_take_series.Goals as goal

pub into_series-requires : goal.into_series-requires
into_series-requires g c =
    let v = view c.args.pass.now in let w = view c.try_take.new.pass in
    let low : c.args.slot < w.start.slots = subst (λ (z : Start). c.args.slot < z.slots) (sym c.try_take.ensures.pass.0.start) c.requires.slot in
    let taken = at_once g.V.Thing.stands v w c.series_object.result c.in-Some.part c.in-Some.ensures.some in
    g.met.V.Parts.some_series w.start (c.args.slot + 2) c.in-Some.part (series_share w.start w.at c.args.slot)
    (took_series g.V.Thing.stands v w c.series_object.result c.args.slot c.in-Some.part c.series_object.ensures low taken)

pub returns-in-Some-clause-some : goal.returns-in-Some-clause-some
returns-in-Some-clause-some g c =
    let v = view c.args.pass.now in let w = view c.try_take.new.pass in
    let low : c.args.slot < w.start.slots = subst (λ (z : Start). c.args.slot < z.slots) (sym c.try_take.ensures.pass.0.start) c.requires.slot in
    let once = c.in-Some.ensures.some in
    let taken = at_once g.V.Thing.stands v w c.series_object.result c.in-Some.part once in (
      subst (λ (n : ℕ). Takes v n w) c.series_object.ensures (takes_it g.V.Thing.stands v w c.series_object.result c.in-Some.part c.requires.pass.0.sound c.requires.pass.0.start once),
      ap (λ (z : View). z.refused) once.1,
      g.met.V.Parts.series_in w.start (c.args.slot + 2) c.in-Some.part c.into_series.result (series_share w.start w.at c.args.slot) c.into_series.ensures
          (took_series g.V.Thing.stands v w c.series_object.result c.args.slot c.in-Some.part c.series_object.ensures low taken),
    )
