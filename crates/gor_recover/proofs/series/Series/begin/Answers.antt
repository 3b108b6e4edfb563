use Rattle.std.proofs.Common.{◌≡◌, [], ◌∷◌, ◌++◌, sym, ap, ◌∙◌, subst, IfNone, None, false}
use Rattle.std.specs.List.{list_any}
use Rattle.gor_recover.specs.Gathering.{has_uid}
use Rattle.gor_recover.proofs.Places.{placed_more, is_there, new_keys}
use Rattle.gor_recover.proofs.series.Series.begin.Goals as goal

pub returns-then-is_some-clause-has : goal.returns-then-is_some-clause-has
returns-then-is_some-clause-has c = is_there c.args.uid c.args.self.now c.place.result (sym c.is_some.ensures ∙ c.if-is_some.true) c.place.ensures.there

pub invariant_of-self-2 : goal.invariant_of-self-2
invariant_of-self-2 c =
    let items = c.in_ok-push.ensures.items ∙ ap (λ l. l ++ record { uid = c.args.uid; points = c.new.result; end = 0; wrong = None } ∷ []) c.in_ok-reserve.ensures.items in
    let absent = subst (λ s. IfNone c.place.result (list_any (has_uid c.args.uid) s ≡ false)) (sym c.self.view_is) c.place.ensures.none in
    rw items (placed_more c.self.inside.gathered.items (record { uid = c.args.uid; points = c.new.result; end = 0; wrong = None }) c.self.inside.places.keys c.insert.new.self.keys c.self.invariant
    (c.in_ok-_new.ensures.keys ∙ new_keys c.args.uid c.self.inside.gathered.items c.place.result c.self.inside.places.keys (sym c.is_some.ensures ∙ c.if-is_some.false) absent c.self.invariant)
    c.insert.ensures.unique)
