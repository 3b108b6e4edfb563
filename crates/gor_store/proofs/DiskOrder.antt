-- The first disk is taken out from before the others, and comes back.
use Rattle.std.proofs.Common.{◌≡◌, ℕ, ◌<◌, List, [], ◌∷◌, ◌++◌, length, refl, ap, ◌∙◌, arith, get_or}
use Rattle.std.specs.Prelude.{set}
use Rattle.std.specs.List.{swap}
use Rattle.gor_store.specs.Stores.{in_their_order}

read_last : {D : Type 0} (xs : List D) (x d : D) → get_or (xs ++ x ∷ []) (length xs) d ≡ x
read_last [] x d = refl
read_last (y ∷ ys) x d = read_last ys x d

set_last : {D : Type 0} (xs : List D) (x y : D) → set (xs ++ x ∷ []) (length xs) y ≡ xs ++ y ∷ []
set_last [] x y = refl
set_last (z ∷ zs) x y = ap (λ ws. z ∷ ws) (set_last zs x y)

in_front : {D : Type 0} (others : List D) (disk : D) → 0 < length others → swap (others ++ disk ∷ []) 0 (length others) ≡ disk ∷ in_their_order others
in_front [] disk some = absurd (omega (arith, some))
in_front (last ∷ before) disk some =
    ap (λ first. set (first ∷ before ++ disk ∷ []) (length (last ∷ before)) last) (read_last before disk last)
    ∙ ap (λ zs. disk ∷ zs) (set_last before disk last)

pub back_in_front : {D : Type 0} (others pushed after : List D) (disk : D) (last : ℕ) → 0 < length others → pushed ≡ others ++ disk ∷ [] → last ≡ length others → after ≡ swap pushed 0 last → after ≡ disk ∷ in_their_order others
back_in_front others pushed after disk last some is at swapped =
    swapped ∙ (ap (λ ds. swap ds 0 last) is ∙ (ap (λ n. swap (others ++ disk ∷ []) 0 n) at ∙ in_front others disk some))
