-- Lists turned round, and what holds of each of their elements.
use Rattle.std.proofs.Common.{◌≡◌, zero, suc, List, [], ◌∷◌, ◌++◌, refl, ap, sym, subst, arith}
use Rattle.std.specs.Prelude.{All, reverse, Some, unwrap_or}
use Rattle.std.specs.List.{AllByRecursion}
use Rattle.std.proofs.lemmas.List.{reverse-append}
use Rattle.std.proofs.lemmas.List.Elements.{All-nil, All-append}
use Rattle.gor_model.specs.Lists.{EachBefore}
use Rattle.gor_model.specs.PlainMap.{last_of}

pub reverse-more : {X : Type 0} (x : X) (xs : List X) → reverse (x ∷ xs) ≡ reverse xs ++ x ∷ []
reverse-more x xs = reverse-append (x ∷ []) xs

all_one : {X : Type 0} (P : X → Type 0) (x : X) → P x → All P (x ∷ [])
all_one P x h zero d k = h
all_one P x h (suc i) d k = absurd (omega arith)

-- what holds of each element holds of each of the list turned round
pub all_reverse : {X : Type 0} (P : X → Type 0) (xs : List X) → AllByRecursion P xs → All P (reverse xs)
all_reverse P [] h = All-nil P
all_reverse {X} P (x ∷ xs) h = subst (λ (ys : List X). All P ys) (sym (reverse-more x xs)) (All-append P (reverse xs) (x ∷ []) (all_reverse P xs h.1) (all_one P x h.0))

each_more : {X : Type 0} (P : X → Type 0) (xs : List X) (y : X) → AllByRecursion P xs → P y → AllByRecursion P (xs ++ y ∷ [])
each_more P [] y h p = (p, tt)
each_more P (x ∷ xs) y h p = (h.0, each_more P xs y h.1 p)

pub each_reverse : {X : Type 0} (P : X → Type 0) (xs : List X) → AllByRecursion P xs → AllByRecursion P (reverse xs)
each_reverse P [] h = tt
each_reverse {X} P (x ∷ xs) h = subst (λ (ys : List X). AllByRecursion P ys) (sym (reverse-more x xs)) (each_more P (reverse xs) x (each_reverse P xs h.1) h.0)

pub before_more : {X : Type 0} (R : X → X → Type 0) (xs : List X) (y : X) → EachBefore R xs → AllByRecursion (λ x. R x y) xs → EachBefore R (xs ++ y ∷ [])
before_more R [] y h k = (tt, tt)
before_more R (x ∷ xs) y h k = (each_more (λ z. R x z) xs y h.0 k.0, before_more R xs y h.1 k.1)

pub last_of-more : {X : Type 0} (xs : List X) (y : X) → last_of (xs ++ y ∷ []) ≡ Some y
last_of-more [] y = refl
last_of-more (x ∷ xs) y = ap (λ o. Some (unwrap_or o x)) (last_of-more xs y)
