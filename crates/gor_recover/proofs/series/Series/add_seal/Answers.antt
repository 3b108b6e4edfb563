use Rattle.std.proofs.Common.{map, sym, ap, ◌∙◌, subst}
use Rattle.gor_recover.specs.Gathering.{with_seal}
use Rattle.gor_recover.specs.Placing.{IsPlaceOf}
use Rattle.gor_recover.proofs.Stepping.{absent_step, place_step, placed_set, seal_other, seal_own, uid_at}
use Rattle.gor_recover.proofs.series.Series.add_seal.Goals as goal

pub invariant_of-self : goal.invariant_of-self
invariant_of-self c = placed_set c.in-Some.at c.self.inside.gathered.items c.index_mut.result.now c.seal.new.self c.self.inside.places.keys c.self.invariant c.index_mut.ensures.value (ap (λ g. g.uid) c.seal.ensures)

pub returns-in-Some : goal.returns-in-Some
returns-in-Some c =
    let there : IsPlaceOf c.self.inside.gathered.items c.args.uid c.in-Some.at = subst (λ s. IsPlaceOf s c.args.uid c.in-Some.at) (sym c.self.view_is) c.in-Some.ensures.there in
    place_step (with_seal c.args.uid c.args.window) c.args.uid c.in-Some.at c.self.inside.gathered.items c.index_mut.result.now c.seal.new.self
    (seal_other c.args.uid c.args.window) (rw c.self.invariant.uids c.self.invariant.apart) there c.index_mut.ensures.value
    (c.seal.ensures ∙ sym (seal_own c.args.uid c.args.window c.index_mut.result.now (uid_at c.args.uid c.in-Some.at c.self.inside.gathered.items c.index_mut.result.now there c.index_mut.ensures.value)))
    ∙ ap (map (with_seal c.args.uid c.args.window)) c.self.view_is

pub returns-in_default : goal.returns-in_default
returns-in_default c = absent_step (with_seal c.args.uid c.args.window) c.args.uid c.args.self.now (seal_other c.args.uid c.args.window) c.in_default.ensures.none
