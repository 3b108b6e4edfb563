-- The part of a word that changed.
use Rattle.std.proofs.Common.{◌≡◌, ℕ, suc, ◌+◌, ◌-◌, ◌*◌, ◌/◌, ◌%◌, ◌^◌, ◌<◌, ◌≤◌, ◌≢◌, [], ◌∷◌, true, false, refl, ap, sym, ◌∙◌, arith, inl, inr}
use Rattle.std.specs.Prelude.{Option, Some, nat_eq}
use Rattle.std.specs.Int.{w64, bit_at}
use Rattle.std.specs.Int.Count.{count_leading_zeros, count_trailing_zeros}
use Rattle.std.proofs.Math.Nat.{pow-le-pow_right, div-eq_of_lt}
use Rattle.std.proofs.lemmas.Nat.{leading_top, leading_length, shr_below, shl_below, shl_whole, shr_split, mod_below, pow_pos, mul-le}
use Rattle.std.proofs.lemmas.Nat.Bits.{bit_at-trailing_zeros, bit_at_cat_low, bit_at-zero, same_from_bits_below}
use Rattle.std.proofs.lemmas.Bool.{cases_lt}
use Rattle.std.proofs.lemmas.Bool.Decides.{nat_tests}
use Rattle.gor_model.specs.Codes.{ValueWindow, changed_code, fitting_code, new_code, window_for, fits}

pub word_below : (x lead : ℕ) → x < 2 ^ 64 → lead ≤ count_leading_zeros 64 x → x < 2 ^ (64 - lead)
word_below x lead small h =
    let l = leading_length 64 x small in
    let up : 2 ^ l.0 ≤ 2 ^ (64 - lead) = pow-le-pow_right (omega arith) (omega (arith, l.1)) in
    omega (arith, l.2, up)

pub piece_fits : (x lead len : ℕ) → x < 2 ^ (64 - lead) → lead + len ≤ 64 → x / 2 ^ (64 - lead - len) < 2 ^ len
piece_fits x lead len below room =
    let e : len + (64 - lead - len) ≡ 64 - lead = omega arith in
    shr_below x len (64 - lead - len) (rw e below)

pub zeros_apart : (x : ℕ) → 0 < x → x < 2 ^ 64 → count_leading_zeros 64 x + count_trailing_zeros 64 x < 64
zeros_apart x some small =
    let top = leading_top 64 x some small in
    let low = bit_at-trailing_zeros w64 x some small in
    let tz = count_trailing_zeros 64 x in
    elim (cases_lt top.0 tz) [
      | inl past ↦
          let up : 2 ^ suc top.0 ≤ 2 ^ tz = pow-le-pow_right (omega arith) (omega arith) in
          let none : x / 2 ^ tz ≡ 0 = div-eq_of_lt (omega (arith, top.3, up)) in
          let one : x / 2 ^ tz % 2 ≡ 1 = low.1 in
          absurd (omega (arith, ap (λ n. n % 2) none))
      | inr within ↦ omega (arith, top.1)
    ]

pub changed_zero : (w : Option ValueWindow) (x : ℕ) → x ≡ 0 → changed_code w x ≡ false ∷ []
unfolding changed_code
changed_zero w x e = rw e refl

differs : (x : ℕ) → x ≢ 0 → nat_eq x 0 ≡ false
differs x h = grind (arith, nat_tests)

pub changed_fits : (w : Option ValueWindow) (x : ℕ) → x ≢ 0 → fits x w ≡ true → changed_code w x ≡ fitting_code w x
unfolding changed_code
changed_fits w x h f = let d = differs x h in rw (d, f) refl

pub changed_new : (w : Option ValueWindow) (x : ℕ) → x ≢ 0 → fits x w ≡ false → changed_code w x ≡ new_code (window_for x) x
unfolding changed_code
changed_new w x h f = let d = differs x h in rw (d, f) refl

-- ---- words from their stored bits

-- a piece moved up has its zeros in front and behind
pub lead_of_piece : (x lead : ℕ) → 0 < x → x < 2 ^ (64 - lead) → lead ≤ 64 → x < 2 ^ 64 → lead ≤ count_leading_zeros 64 x
lead_of_piece x lead some below room small =
    let top = leading_top 64 x some small in
    elim (cases_lt top.0 (64 - lead)) [
      | inl within ↦ omega (arith, top.1)
      | inr past ↦ let up : 2 ^ (64 - lead) ≤ 2 ^ top.0 = pow-le-pow_right (omega arith) past in absurd (omega (arith, top.2, up))
    ]

pub tail_of_piece : (piece shift : ℕ) → 0 < piece * 2 ^ shift → piece * 2 ^ shift < 2 ^ 64 → shift ≤ count_trailing_zeros 64 (piece * 2 ^ shift)
tail_of_piece piece shift some small =
    let x = piece * 2 ^ shift in
    let low = bit_at-trailing_zeros w64 x some small in
    let tz = count_trailing_zeros 64 x in
    elim (cases_lt tz shift) [
      | inl under ↦
          let one : bit_at x tz ≡ 1 = low.1 in
          let none : bit_at (piece * 2 ^ shift + 0) tz ≡ bit_at 0 tz = bit_at_cat_low piece shift 0 tz under in
          let zero_bit : bit_at 0 tz ≡ 0 = bit_at-zero tz in
          let same : piece * 2 ^ shift + 0 ≡ x = omega arith in
          let again : bit_at (piece * 2 ^ shift + 0) tz ≡ bit_at x tz = ap (λ k. bit_at k tz) same in
          absurd (let e : ◌≡◌ {A = ℕ} 1 0 = sym one ∙ sym again ∙ none ∙ zero_bit in omega (arith, e))
      | inr within ↦ within
    ]

-- the zeros behind a word are lost by no shift
pub piece_whole : (x shift : ℕ) → 0 < x → x < 2 ^ 64 → shift ≤ count_trailing_zeros 64 x → x ≡ x / 2 ^ shift * 2 ^ shift
piece_whole x shift some small within =
    let low = bit_at-trailing_zeros w64 x some small in
    let b = x % 2 ^ shift in
    let split : x / 2 ^ shift * 2 ^ shift + b ≡ x = shr_split x shift in
    let zero : b ≡ 0 = same_from_bits_below shift b 0 (mod_below x (2 ^ shift) (pow_pos shift)) (pow_pos shift) (λ i h.
    sym (bit_at_cat_low (x / 2 ^ shift) shift b i h) ∙ ap (λ k. bit_at k i) split ∙ low.2 i (omega arith) ∙ sym (bit_at-zero i)) in
    omega (arith, split, zero)

-- a piece moved to its place
pub moved : (lead len piece : ℕ) → lead + len ≤ 64 → piece < 2 ^ len → (piece * 2 ^ (64 - lead - len) < 2 ^ (64 - lead)) × (piece * 2 ^ (64 - lead - len) < 2 ^ 64) × (piece * 2 ^ (64 - lead - len) % 2 ^ 64 ≡ piece * 2 ^ (64 - lead - len))
moved lead len piece room small =
    let shift = 64 - lead - len in
    let e : len + shift ≡ 64 - lead = omega arith in
    let below : piece * 2 ^ shift < 2 ^ (len + shift) = shl_below piece len shift small in
    let up : 2 ^ (64 - lead) ≤ 2 ^ 64 = pow-le-pow_right {n = 2} (omega arith) {i = 64 - lead} {j = 64} (omega arith) in
    (rw e at below, omega (arith, ap (λ k. 2 ^ k) e), shl_whole piece len shift 64 small (omega arith))

pub moved_some : (piece shift : ℕ) → 0 < piece → 0 < piece * 2 ^ shift
moved_some piece shift some = omega (arith, mul-le 1 1 piece (2 ^ shift) some (pow_pos shift))

pub fits_parts : (x : ℕ) (v : ValueWindow) → fits x (Some v) ≡ true → (v.lead ≤ count_leading_zeros 64 x) × (64 - v.lead - v.len ≤ count_trailing_zeros 64 x)
fits_parts x v h = grind (arith, nat_tests)

pub fits_from : (x : ℕ) (v : ValueWindow) → v.lead ≤ count_leading_zeros 64 x → 64 - v.lead - v.len ≤ count_trailing_zeros 64 x → fits x (Some v) ≡ true
fits_from x v a b = grind (arith, nat_tests)
