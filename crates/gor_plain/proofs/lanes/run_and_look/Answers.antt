use Rattle.std.proofs.Common.{ℕ, ◌<◌, subst, sym, ◌∙◌}
use Rattle.gor_plain.proofs.lanes.run_and_look.Goals as goal

pub run_in_place-requires-2-clause-passes : goal.run_in_place-requires-2-clause-passes
run_in_place-requires-2-clause-passes g c κs within k d low = (c.run_in_place.ensures.back k d (subst (λ (n : ℕ). k < n) c.run_in_place.ensures.length low)).0

pub returns-clause-back : goal.returns-clause-back
returns-clause-back g c i d low = let one = c.run_in_place.ensures.back i d low in
    let two = c.run_in_place-2.ensures.back i d (subst (λ (n : ℕ). i < n) (sym c.run_in_place.ensures.length) low) in (two.0, two.1 ∙ one.1)
