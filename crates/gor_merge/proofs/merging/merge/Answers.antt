use Rattle.std.proofs.Common.{◌≡◌, ◌+◌, ◌<◌, ℕ, length, get_or, set, drop, List, [], ◌∷◌, ◌++◌, replicate, ap, sym, subst, ◌∙◌, arith, rules}
use Rattle.std.specs.Vec.{with_items}
use Rattle.std.proofs.lemmas.List.{with_items_is, length-replicate}
use Rattle.gor_model.specs.declared.point.Merged.{Merged}
use Rattle.gor_model.specs.Merges.{placed_from}
use Rattle.gor_merge.specs.Heads.{left, head_of, points_at}
use Rattle.gor_merge.proofs.HeadLaws.{length-heads}
use Rattle.gor_merge.proofs.MergeSteps.{Merging, at_first, at_last, has_more, one_more, heads_are_lists}
use Rattle.gor_merge.proofs.merging.merge.Goals as goal

pub new-requires : goal.new-requires
new-requires c = omega (arith, ap length (c.deref.ensures.value ∙ c.in_ok-heads_of.ensures), length-heads 0 c.args.lists.now, c.requires.few)

pub loop-next-init : goal.loop-next-init
loop-next-init c =
    let zeros : c.in_ok-taken.taken.items ≡ replicate (length c.args.lists.now) 0 = search rules in
    subst (λ (ms : List Merged). Merging c.args.lists.now c.in_ok-taken.taken.items c.in_ok-tournament.tournament ms) (sym c.in_ok-merged.ensures.items)
    (at_first c.args.lists.now c.in_ok-taken.taken.items c.in_ok-tournament.tournament zeros (c.in_ok-tournament.ensures ∙ c.deref.ensures.value ∙ c.in_ok-heads_of.ensures) (ap length zeros ∙ length-replicate (length c.args.lists.now) 0))

pub take_next-requires-clause-there : goal.take_next-requires-clause-there
take_next-requires-clause-there c =
    (has_more _ _ _ _ c.loop-next.invariant c.in-Some.next c.in-Some.ensures).0

pub take_next-requires-clause-heads : goal.take_next-requires-clause-heads
take_next-requires-clause-heads c = heads_are_lists _ _ _ _ c.loop-next.invariant

pub take_next-requires-clause-more : goal.take_next-requires-clause-more
take_next-requires-clause-more c =
    omega (arith, (has_more _ _ _ _ c.loop-next.invariant c.in-Some.next c.in-Some.ensures).1, ap (λ (ts : List ℕ). get_or ts c.in-Some.next.place 0) c.deref_mut.ensures.value)

-- the point that was taken, and what is left behind it
more : (c : goal.After-taken-in-Some-2-1) → Merging c.args.lists.now (with_items c.loop-next.taken c.take_next.new.taken).items c.take_next.new.tournament (c.loop-next.merged.items ++ c.in-Some.next ∷ [])
    × (length (placed_from 0 (left (with_items c.loop-next.taken c.take_next.new.taken).items c.args.lists.now)) < length (placed_from 0 (left c.loop-next.taken.items c.args.lists.now)))
more c =
    let place = c.in-Some.next.place in
    let same : length c.take_next.new.taken ≡ c.loop-next.taken.len = omega (arith, c.take_next.auto.taken, c.deref_mut.ensures.len) in
    let taken_is = with_items_is c.loop-next.taken c.take_next.new.taken same
    ∙ c.take_next.ensures.taken
    ∙ ap (λ (ts : List ℕ). set ts place (get_or ts place 0 + 1)) c.deref_mut.ensures.value in
    let heads_are = c.take_next.ensures.heads
    ∙ ap (λ (ts : List ℕ). set c.loop-next.tournament place (head_of place (drop (get_or ts place 0 + 1) (points_at c.args.lists.now place)))) c.deref_mut.ensures.value in
    one_more _ _ _ _ c.loop-next.invariant c.in-Some.next _ _ c.requires.rising c.in-Some.ensures taken_is heads_are

pub loop-next-smaller : goal.loop-next-smaller
loop-next-smaller c = (more c).1

pub loop-next-preserved : goal.loop-next-preserved
loop-next-preserved c = subst (Merging _ _ _) (sym c.in_ok-push.ensures.items) (more c).0

pub returns : goal.returns
returns c = record { merged = at_last _ _ _ _ c.loop-next.invariant c.in_default.ensures }
