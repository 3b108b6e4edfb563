-- How numbers are written, digit by digit.
use Rattle.std.proofs.Common.{◌≡◌, ◌≢◌, ℕ, zero, suc, ◌+◌, ◌-◌, ◌/◌, ◌%◌, ◌<◌, Bool, true, ◌&&◌, T, eqb, List, [], ◌∷◌, ◌++◌, length, get_or, set, drop, refl, inl, inr, eq-zero-or-pos, eqb→eq, append_assoc, arith}
use Rattle.std.proofs.lemmas.List.{drop-set}
use lib.Ieee.Fits.{and_l, and_r}
use Rattle.gor_text.specs.Spelling.{hex_digit, hex_digits}

-- the lowest digit stands last
pub hex_digits-more : (count number : ℕ) → count ≢ 0 → hex_digits count number ≡ hex_digits (count - 1) (number / 16) ++ hex_digit (number % 16) ∷ []
hex_digits-more zero number some = absurd (some refl)
hex_digits-more (suc count) number some = let less : suc count - 1 ≡ count = omega arith in rw less refl

-- a digit by its place in the table of digits
abbrev glyphs : List ℕ
glyphs = 48 ∷ 49 ∷ 50 ∷ 51 ∷ 52 ∷ 53 ∷ 54 ∷ 55 ∷ 56 ∷ 57 ∷ 97 ∷ 98 ∷ 99 ∷ 100 ∷ 101 ∷ 102 ∷ []

abbrev are_glyphs : ℕ → Bool
are_glyphs zero = true
are_glyphs (suc d) = eqb (get_or glyphs d 0) (hex_digit d) && are_glyphs d

below : (n d : ℕ) → T (are_glyphs n) → d < n → get_or glyphs d 0 ≡ hex_digit d
below zero d t h = absurd (omega arith)
below (suc n) d t h =
    elim (eq-zero-or-pos (n - d)) [
      | inl z ↦ let e : d ≡ n = omega arith in rw e (eqb→eq _ _ (and_l _ (are_glyphs n) t))
      | inr g ↦ below n d (and_r _ (are_glyphs n) t) (omega arith)
    ]

pub glyph_at : (d : ℕ) → d < 16 → get_or glyphs d 0 ≡ hex_digit d
glyph_at d h = below 16 d tt h

-- a digit is written over the byte in front of those that are written
pub digit_written : (count number at : ℕ) (bytes : List ℕ) → 0 < count → at < length bytes
    → hex_digits (count - 1) (number / 16) ++ drop at (set bytes at (get_or glyphs (number % 16) 0)) ≡ hex_digits count number ++ drop (at + 1) bytes
digit_written count number at bytes some there =
    rw (drop-set bytes at (get_or glyphs (number % 16) 0) there, glyph_at (number % 16) (omega arith), hex_digits-more count number (λ e. omega arith), append_assoc) refl
