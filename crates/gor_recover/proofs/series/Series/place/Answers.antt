use Rattle.std.proofs.Common.{◌≡◌, refl, sym, ap, ◌∙◌, subst, IfSome, IfNone, Some, None, Option, ℕ, false}
use Rattle.std.specs.Prelude.{is_some}
use Rattle.std.specs.List.{list_any}
use Rattle.gor_recover.specs.Gathering.{has_uid}
use Rattle.gor_recover.specs.Placing.{IsPlaceOf}
use Rattle.gor_recover.proofs.Places.{place_is, any_uid}
use Rattle.gor_recover.proofs.series.Series.place.Goals as goal

pub returns-clause-there : goal.returns-clause-there
returns-clause-there c = by c.get_index_of.result refl where
  by : (o : Option ℕ) → c.get_index_of.result ≡ o → IfSome o (λ at. IsPlaceOf c.args.self.now c.args.uid at)
  by None e = tt
  by (Some at) e = subst (λ s. IsPlaceOf s c.args.uid at) c.self.view_is (place_is c.args.uid at c.self.inside.gathered.items (rw c.self.invariant.uids (sym c.get_index_of.ensures.index ∙ e)))

pub returns-clause-none : goal.returns-clause-none
returns-clause-none c = by c.get_index_of.result refl where
  by : (o : Option ℕ) → c.get_index_of.result ≡ o → IfNone o (list_any (has_uid c.args.uid) c.args.self.now ≡ false)
  by None e = ap (list_any (has_uid c.args.uid)) (sym c.self.view_is) ∙ (any_uid c.args.uid c.self.inside.gathered.items ∙ (rw c.self.invariant.uids (sym c.get_index_of.ensures.found ∙ ap is_some e)))
  by (Some at) e = tt
