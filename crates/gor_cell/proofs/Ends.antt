-- Elements of lists, and the last of them.
use Rattle.std.proofs.Common.{◌≡◌, suc, ◌-◌, List, [], ◌∷◌, ◌++◌, length, refl, ap, ◌∙◌, subst, Option, None, Some, arith}
use Rattle.std.specs.Prelude.{unwrap_or, slice_get, All}
use Rattle.std.specs.List.{AllByRecursion}
use Rattle.std.specs.Option.{option_or}
use Rattle.gor_model.specs.PlainMap.{last_of}

or_none : {A : Type 0} (o : Option A) → o ≡ option_or o None
or_none None = refl
or_none (Some x) = refl

or_first : {A : Type 0} (o p : Option A) (x : A) → Some (unwrap_or (option_or o p) x) ≡ option_or o (Some (unwrap_or p x))
or_first None p x = refl
or_first (Some y) p x = refl

-- the last of two lists is that of the second, or else of the first
pub last_behind : {A : Type 0} (xs ys : List A) → last_of (xs ++ ys) ≡ option_or (last_of ys) (last_of xs)
last_behind [] ys = or_none (last_of ys)
last_behind (x ∷ xs) ys = ap (λ o. Some (unwrap_or o x)) (last_behind xs ys) ∙ or_first (last_of ys) (last_of xs) x

pub last_snoc : {A : Type 0} (xs : List A) (b : A) → last_of (xs ++ b ∷ []) ≡ Some b
last_snoc xs b = last_behind xs (b ∷ [])

pub last_none : {A : Type 0} (xs : List A) → last_of xs ≡ None → xs ≡ []
last_none [] e = refl
last_none (x ∷ xs) e = cc

pub get_last : {A : Type 0} (xs : List A) → slice_get xs (length xs - 1) ≡ last_of xs
get_last [] = refl
get_last (x ∷ []) = refl
get_last (x ∷ y ∷ ys) =
    let e : length (x ∷ y ∷ ys) - 1 ≡ suc (length (y ∷ ys) - 1) = omega arith in
    rw e (get_last (y ∷ ys))

-- ---- facts of each element

pub each : {A : Type 0} (P : A → Type 0) (xs : List A) → All P xs → AllByRecursion P xs
each P [] all = tt
each P (x ∷ xs) all = (all 0 x (omega arith), each P xs (λ k d h. all (suc k) d (omega arith)))

pub each_at : {A : Type 0} (P : A → Type 0) (xs : List A) (b : A) → AllByRecursion P xs → last_of xs ≡ Some b → P b
each_at P [] b all e = cc
each_at P (x ∷ []) b all e = let h : x ≡ b = (cc) in subst P h all.0
each_at P (x ∷ y ∷ ys) b all e = each_at P (y ∷ ys) b all.1 e

pub each_map : {A : Type 0} (P Q : A → Type 0) (xs : List A) → ((x : A) → P x → Q x) → AllByRecursion P xs → AllByRecursion Q xs
each_map P Q [] f all = tt
each_map P Q (x ∷ xs) f all = (f x all.0, each_map P Q xs f all.1)

pub each_front : {A : Type 0} (P : A → Type 0) (xs ys : List A) → AllByRecursion P (xs ++ ys) → AllByRecursion P xs
each_front P [] ys all = tt
each_front P (x ∷ xs) ys all = (all.0, each_front P xs ys all.1)

pub each_back : {A : Type 0} (P : A → Type 0) (xs ys : List A) → AllByRecursion P (xs ++ ys) → AllByRecursion P ys
each_back P [] ys all = all
each_back P (x ∷ xs) ys all = each_back P xs ys all.1

pub each_both : {A : Type 0} (P : A → Type 0) (xs ys : List A) → AllByRecursion P xs → AllByRecursion P ys → AllByRecursion P (xs ++ ys)
each_both P [] ys a b = b
each_both P (x ∷ xs) ys a b = (a.0, each_both P xs ys a.1 b)
