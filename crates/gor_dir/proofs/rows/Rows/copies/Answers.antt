use Rattle.std.proofs.Common.{◌≡◌, ap, ◌∷◌}
use Rattle.std.specs.Map.Iter.{deref_pair}
use Rattle.std.proofs.lemmas.Map.Iter.{rest_more}
use Rattle.gor_dir.proofs.EntryLaws.{copied_more}
use Rattle.gor_dir.proofs.rows.Rows.copies.Goals as goal

pub loop-spelling-preserved : goal.loop-spelling-preserved
loop-spelling-preserved c =
    let e : c.loop-spelling.spelling-iterator ≡ (c.in-Some.spelling.now, c.in-Some.place.now) ∷ c.next.new.self
    = rest_more deref_pair c.loop-spelling.spelling-iterator c.next.new.self c.next.result (c.in-Some.spelling, c.in-Some.place) c.in-Some.is c.next.ensures.steps in
    rw c.in_ok-push.ensures.items
    (copied_more c.loop-spelling.rows.items (record { name = c.in_ok-copy.field-0; slot = c.in-Some.place.now.slot; uid = c.in-Some.place.now.uid })
    (c.in-Some.spelling.now, c.in-Some.place.now) c.next.new.self c.args.self.now.rows
    (ap (λ name. record { name = name; slot = c.in-Some.place.now.slot; uid = c.in-Some.place.now.uid }) c.in_ok-copy.ensures.equal)
    (rw e at c.loop-spelling.invariant))
