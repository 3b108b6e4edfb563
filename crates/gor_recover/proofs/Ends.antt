-- The last of a list.
use Rattle.std.proofs.Common.{◌≡◌, suc, ◌-◌, List, [], ◌∷◌, ◌++◌, length, refl, ap, ◌∙◌, Option, None, Some, arith}
use Rattle.std.specs.Prelude.{unwrap_or, slice_get}
use Rattle.std.specs.Option.{option_or}
use Rattle.gor_model.specs.PlainMap.{last_of}

or_none : {A : Type 0} (o : Option A) → o ≡ option_or o None
or_none None = refl
or_none (Some x) = refl

or_first : {A : Type 0} (o p : Option A) (x : A) → Some (unwrap_or (option_or o p) x) ≡ option_or o (Some (unwrap_or p x))
or_first None p x = refl
or_first (Some y) p x = refl

-- the last of two lists is that of the second, or else of the first
pub last_behind : {A : Type 0} (xs ys : List A) → last_of (xs ++ ys) ≡ option_or (last_of ys) (last_of xs)
last_behind [] ys = or_none (last_of ys)
last_behind (x ∷ xs) ys = ap (λ o. Some (unwrap_or o x)) (last_behind xs ys) ∙ or_first (last_of ys) (last_of xs) x

pub last_snoc : {A : Type 0} (xs : List A) (b : A) → last_of (xs ++ b ∷ []) ≡ Some b
last_snoc xs b = last_behind xs (b ∷ [])

pub get_last : {A : Type 0} (xs : List A) → slice_get xs (length xs - 1) ≡ last_of xs
get_last [] = refl
get_last (x ∷ []) = refl
get_last (x ∷ y ∷ ys) =
    let e : length (x ∷ y ∷ ys) - 1 ≡ suc (length (y ∷ ys) - 1) = omega arith in
    rw e (get_last (y ∷ ys))
