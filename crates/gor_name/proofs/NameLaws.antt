-- The test for a name is true of names alone.
use Rattle.std.proofs.Common.{◌≡◌, ◌≢◌, ℕ, ◌⊎◌, inl, inr, Bool, true, false, List, [], ◌∷◌, length, refl, subst, eqb, leb}
use Rattle.std.specs.Prelude.{not, ◌&&◌}
use Rattle.std.specs.Str.{is_utf8}
use Rattle.std.specs.List.{list_all, AllByRecursion}
use Rattle.std.specs.Cmp.Derive.{both_true}
use Rattle.std.proofs.lemmas.Str.{IsUtf8-from_is_utf8, is_utf8-from_IsUtf8}
use Rattle.std.proofs.lemmas.Bool.{le-leb, leb-true, ne_eqb, false≢true}
use Rattle.std.proofs.lemmas.Bool.Decides.{eqb_tells}
use Rattle.gor_model.specs.Names.{IsName}
use Rattle.gor_name.specs.NameTest.{is_plain, is_name}
use Rattle.gor_name.specs.Refusals.{IsPlain}

both : (a b : Bool) → (a && b) ≡ true → (a ≡ true) × (b ≡ true)
both true b e = (refl, e)
both false b e = absurd cc

plain_of : (b : ℕ) → is_plain b ≡ true → IsPlain b
plain_of b e =
    let parts = both (leb 33 b) (not (eqb b 127)) e in
    (leb-true 33 b parts.0, other (eqb b 127) parts.1 (eqb_tells b 127))
  where
    other : (t : Bool) → not t ≡ true → ((t ≡ true) × (b ≡ 127)) ⊎ ((t ≡ false) × (b ≢ 127)) → b ≢ 127
    other t n (inl h) = absurd (false≢true (let k : not true ≡ true = subst (λ (s : Bool). not s ≡ true) h.0 n in k))
    other t n (inr h) = h.1

test_of_plain : (b : ℕ) → IsPlain b → is_plain b ≡ true
test_of_plain b plain = both_true (le-leb 33 b plain.0) (rw (ne_eqb b 127 plain.1) refl)

plains_of : (bytes : List ℕ) → list_all is_plain bytes ≡ true → AllByRecursion IsPlain bytes
plains_of [] e = tt
plains_of (b ∷ bytes) e = let parts = both (is_plain b) (list_all is_plain bytes) e in (plain_of b parts.0, plains_of bytes parts.1)

test_of_plains : (bytes : List ℕ) → AllByRecursion IsPlain bytes → list_all is_plain bytes ≡ true
test_of_plains [] plain = refl
test_of_plains (b ∷ bytes) plain = both_true (test_of_plain b plain.0) (test_of_plains bytes plain.1)

pub name_of : (bytes : List ℕ) → is_name bytes ≡ true → IsName bytes
unfolding is_name
name_of bytes e =
    let c = both (is_utf8 bytes && leb 1 (length bytes) && leb (length bytes) 255) (list_all is_plain bytes) e in
    let b = both (is_utf8 bytes && leb 1 (length bytes)) (leb (length bytes) 255) c.0 in
    let a = both (is_utf8 bytes) (leb 1 (length bytes)) b.0 in
    record { text = IsUtf8-from_is_utf8 bytes a.0; some = leb-true 1 (length bytes) a.1; short = leb-true (length bytes) 255 b.1; plain = plains_of bytes c.1 }

pub test_of : (bytes : List ℕ) → IsName bytes → is_name bytes ≡ true
unfolding is_name
test_of bytes name =
    both_true (both_true (both_true (is_utf8-from_IsUtf8 bytes name.text) (le-leb 1 (length bytes) name.some)) (le-leb (length bytes) 255 name.short))
    (test_of_plains bytes name.plain)

pub no_name : (bytes : List ℕ) → (IsName bytes → ⊥) → is_name bytes ≡ false
no_name bytes none = by (is_name bytes) refl where
  by : (b : Bool) → is_name bytes ≡ b → is_name bytes ≡ false
  by true e = absurd (none (name_of bytes e))
  by false e = e
