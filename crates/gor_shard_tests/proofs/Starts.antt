-- What a shard recovers in a test is a start.
use Rattle.std.proofs.Common.{◌≡◌, ◌≢◌, inl, inr, ℕ, List, [], ◌∷◌, refl, sym, ap, subst, ◌∙◌, arith}
use Rattle.std.specs.Prelude.{map}
use Rattle.std.specs.List.{AllByRecursion}
use Rattle.gor_model.specs.Names.{key_of}
use Rattle.gor_model.specs.Starts.{AreApart, IsRow, IsStart}
use Rattle.gor_model.specs.declared.start.Row.{Row}
use Rattle.gor_model.proofs.PlainNames.{plain_key}
use Rattle.gor_recover.specs.Recovered.{keyed_row, row_of, recovered_start}
use Rattle.gor_recover.specs.declared.recovered.Recovered.{Recovered}
use Rattle.gor_recover.specs.declared.recovered.RecoveredRow.{RecoveredRow}
use Rattle.gor_shard_tests.specs.Rows.{row_a, row_b}

key_a : key_of (97 ∷ []) ≡ 97 ∷ []
key_a = plain_key (97 ∷ []) (record { low = omega arith; high = omega arith; lower = inr (omega arith) }, tt)

key_b : key_of (98 ∷ []) ≡ 98 ∷ []
key_b = plain_key (98 ∷ []) (record { low = omega arith; high = omega arith; lower = inr (omega arith) }, tt)

a_is_row : IsRow 3 (key_of row_a.name) row_a
a_is_row = record {
  keyed = refl;
  slot = omega arith;
  uid = (omega arith, omega arith);
  floor = inr (12, omega arith, refl);
  rising = ((omega arith, (omega arith, tt)), ((omega arith, tt), (tt, tt)));
  timely = (omega arith, (omega arith, (omega arith, tt)));
  kept = (refl, (refl, (refl, tt)));
}

b_is_row : IsRow 3 (key_of row_b.name) row_b
b_is_row = record {
  keyed = refl;
  slot = omega arith;
  uid = (omega arith, omega arith);
  floor = inl refl;
  rising = (tt, tt);
  timely = (omega arith, tt);
  kept = (refl, tt);
}

-- two names of one letter
letters_differ : (a b : ℕ) (xs ys : List ℕ) → a ∷ xs ≡ b ∷ ys → a ≡ b
letters_differ a b xs ys same = cc

keys_differ : key_of row_b.name ≢ key_of row_a.name
keys_differ same = let ends = letters_differ 98 97 [] [] (sym key_b ∙ same ∙ key_a) in omega (arith, ends)

pub two_rows_start : (r : Recovered) (a b : RecoveredRow) → r.floor ≡ 93600 → r.next ≡ 9 → r.rows.items ≡ a ∷ b ∷ [] → row_of a ≡ row_a → row_of b ≡ row_b → IsStart (recovered_start 3 r)
unfolding recovered_start
two_rows_start r a b floor next rows a_is b_is = record {
  slots = omega arith;
  floor = inr (12, omega arith, floor);
  next = (omega (arith, next), omega (arith, next));
  rows = subst (λ (l : List (List ℕ × Row)). AllByRecursion (λ q. IsRow 3 q.0 q.1) l) (sym keyed) (a_is_row, (b_is_row, tt));
  apart = subst AreApart (sym keyed) (((keys_differ, (λ same. omega (arith, same))), tt), (tt, tt));
} where
  keyed : map keyed_row r.rows.items ≡ (key_of row_a.name, row_a) ∷ (key_of row_b.name, row_b) ∷ []
  keyed = ap (map keyed_row) rows ∙ (λ i. (key_of (a_is i).name, a_is i) ∷ (key_of (b_is i).name, b_is i) ∷ [])

pub no_rows_start : (r : Recovered) → r.floor ≡ 0 → r.next ≡ 1 → r.rows.items ≡ [] → IsStart (recovered_start 2 r)
unfolding recovered_start
no_rows_start r floor next rows = record {
  slots = omega arith;
  floor = inl floor;
  next = (omega (arith, next), omega (arith, next));
  rows = rw rows tt;
  apart = rw rows tt;
}
