-- Where series stand.
use Rattle.std.proofs.Common.{◌≡◌, ◌≢◌, ℕ, zero, suc, ◌+◌, ◌<◌, ◌⊎◌, inl, inr, List, [], ◌∷◌, ◌++◌, length, map, Bool, true, false, Option, Some, None, refl, sym, ap, ◌∙◌, subst, arith}
use Rattle.std.specs.Prelude.{nat_eq, nat_lt, IsTrue, ◌||◌, option_map, slice_get, position, cond, IfSome, IfNone, is_some, if◌then◌else◌}
use Rattle.std.specs.List.{list_any, position_or_len, IsDistinct}
use Rattle.std.proofs.lemmas.Bool.Decides.{eqb_tells}
use Rattle.std.proofs.lemmas.Bool.{eq-eqb}
use Rattle.std.proofs.lemmas.List.{map-append, length-map}
use Rattle.gor_recover.specs.declared.gather.Gathered.{Gathered}
use Rattle.gor_recover.specs.Gathering.{has_uid}
use Rattle.gor_recover.specs.Placing.{IsPlaceOf, BeginsMore, ArePlaced}
use Rattle.indexmap.specs.IndexSet.{insert_key}

pub uid_of : Gathered → ℕ
uid_of g = g.uid

pub first_is : (uid : ℕ) (xs : List Gathered) → position_or_len (nat_eq uid) (map (λ g. g.uid) xs) < length xs → option_map (λ g. g.uid) (slice_get xs (position_or_len (nat_eq uid) (map (λ g. g.uid) xs))) ≡ Some uid
first_is uid [] within = absurd (omega arith)
first_is uid (x ∷ xs) within = tell (eqb_tells uid x.uid) (first_is uid xs) where
  tell : ((nat_eq uid x.uid ≡ true) × (uid ≡ x.uid)) ⊎ ((nat_eq uid x.uid ≡ false) × (uid ≢ x.uid))
      → (position_or_len (nat_eq uid) (map (λ g. g.uid) xs) < length xs → option_map (λ g. g.uid) (slice_get xs (position_or_len (nat_eq uid) (map (λ g. g.uid) xs))) ≡ Some uid)
      → option_map (λ g. g.uid) (slice_get (x ∷ xs) (position_or_len (nat_eq uid) (map (λ g. g.uid) (x ∷ xs)))) ≡ Some uid
  tell (inl same) rest = rw same.0 (ap Some (sym same.1))
  tell (inr apart) rest =
      let h = rw apart.0 at within in
      let e : 1 + position_or_len (nat_eq uid) (map (λ g. g.uid) xs) ≡ suc (position_or_len (nat_eq uid) (map (λ g. g.uid) xs)) = omega arith in
      rw (apart.0, e) (rest (omega arith))

pub any_uid : (uid : ℕ) (xs : List Gathered) → list_any (has_uid uid) xs ≡ list_any (nat_eq uid) (map (λ g. g.uid) xs)
any_uid uid [] = refl
any_uid uid (x ∷ xs) = ap (λ b. nat_eq uid x.uid || b) (any_uid uid xs)

pub place_is : (uid at : ℕ) (xs : List Gathered) → position (nat_eq uid) (map (λ g. g.uid) xs) ≡ Some at → IsPlaceOf xs uid at
place_is uid at xs is = by (nat_lt n (length (map (λ g. g.uid) xs))) refl is where
  n : ℕ
  n = position_or_len (nat_eq uid) (map (λ g. g.uid) xs)

  by : (b : Bool) → nat_lt n (length (map (λ g. g.uid) xs)) ≡ b → cond b (Some n) None ≡ Some at → IsPlaceOf xs uid at
  by false e is' = absurd (let both : None ≡ Some at = is' in cc)
  by true e is' =
      let both : Some n ≡ Some at = is' in
      let it : n ≡ at = cc in
      let low : n < length (map (λ g. g.uid) xs) = grind arith in
      let within : n < length xs = (let l : length (map (λ g. g.uid) xs) ≡ length xs = length-map xs (λ g. g.uid) in omega arith) in
      subst (IsPlaceOf xs uid) it (record { within = within; is = first_is uid xs within })

-- ---- one more

true_or : (b c : Bool) → b ≡ true → (b || c) ≡ true
true_or true c e = refl
true_or false c e = absurd (cc)

or_true : (b : Bool) → (b || true) ≡ true
or_true true = refl
or_true false = refl

pub begins_none : (xs : List Gathered) → BeginsMore xs xs
begins_none xs = record { begun = λ all. all; kept = λ uid has. has }

pub placed_more : (xs : List Gathered) (g : Gathered) (places more : List ℕ) → ArePlaced xs places → more ≡ places ++ g.uid ∷ [] → IsDistinct nat_eq more → ArePlaced (xs ++ g ∷ []) more
placed_more xs g places more placed are apart = record {
  uids = map-append (λ (g : Gathered). g.uid) xs (g ∷ []) ∙ (ap (λ l. l ++ g.uid ∷ []) placed.uids ∙ sym are);
  apart = apart;
}

pub is_there : (uid : ℕ) (xs : List Gathered) (o : Option ℕ) → is_some o ≡ true → IfSome o (λ at. IsPlaceOf xs uid at) → IsTrue (list_any (has_uid uid) xs)
is_there uid xs None is there = absurd (cc)
is_there uid [] (Some at) is there = absurd (let h = there.within in omega arith)
is_there uid (x ∷ xs) (Some zero) is there = let both : Some x.uid ≡ Some uid = there.is in let it : uid ≡ x.uid = cc in true_or (nat_eq uid x.uid) (list_any (has_uid uid) xs) (eq-eqb uid x.uid it)
is_there uid (x ∷ xs) (Some (suc at)) is there = rest (is_there uid xs (Some at) refl (record { within = let h = there.within in omega arith; is = there.is })) where
  rest : list_any (has_uid uid) xs ≡ true → (nat_eq uid x.uid || list_any (has_uid uid) xs) ≡ true
  rest e = rw e (or_true (nat_eq uid x.uid))

pub new_keys : (uid : ℕ) (xs : List Gathered) (o : Option ℕ) (places : List ℕ) → is_some o ≡ false → IfNone o (list_any (has_uid uid) xs ≡ false) → ArePlaced xs places → insert_key nat_eq places uid ≡ places ++ uid ∷ []
new_keys uid xs (Some at) places is none placed = absurd (cc)
new_keys uid xs None places is none placed = by (list_any (nat_eq uid) places) absent where
  absent : list_any (nat_eq uid) places ≡ false
  absent = ap (list_any (nat_eq uid)) (sym placed.uids) ∙ (sym (any_uid uid xs) ∙ none)

  by : (b : Bool) → b ≡ false → (if b then places else places ++ uid ∷ []) ≡ places ++ uid ∷ []
  by true e = absurd (cc)
  by false e = refl
