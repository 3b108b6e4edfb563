-- Bytes as bits.
use Rattle.std.proofs.Common.{◌≡◌, ℕ, zero, suc, ◌+◌, ◌-◌, ◌*◌, ◌/◌, ◌^◌, ◌<◌, ◌≤◌, List, [], ◌∷◌, ◌++◌, length, take, drop, replicate, get_or, Bool, false, refl, ap, ap₂, sym, ◌∙◌, arith, append_assoc, length-append, inl, inr, min, length-drop, length-take-le}
use Rattle.std.specs.Int.{bytes_high_first, byte_at, w64, to_be_bytes, from_be_bytes}
use Rattle.std.proofs.Math.Nat.{pow-suc}
use Rattle.std.proofs.lemmas.List.{append-nil, take_all, drop_all, take-append-le, take-replicate, drop-replicate, replicate-append-replicate, length-replicate}
use Rattle.std.proofs.lemmas.Nat.{be_bytes_8, pow-add}
use Rattle.std.proofs.lemmas.Bool.{cases_lt}
use Rattle.gor_bits.specs.Spelled.{spelled, bits_of}
use Rattle.gor_bits.proofs.Words.{length-spelled, spelled-append, spelled-mod, spelled-zero}

pub length-bits_of : (bytes : List ℕ) → length (bits_of bytes) ≡ 8 * length bytes
unfolding bits_of
length-bits_of [] = refl
length-bits_of (b ∷ bs) = length-append (spelled 8 b) (bits_of bs) ∙ omega (arith, length-spelled 8 b, length-bits_of bs)

pub bits_of-append : (xs ys : List ℕ) → bits_of (xs ++ ys) ≡ bits_of xs ++ bits_of ys
unfolding bits_of
bits_of-append [] ys = refl
bits_of-append (x ∷ xs) ys = ap (λ (bs : List Bool). spelled 8 x ++ bs) (bits_of-append xs ys) ∙ sym (append_assoc (spelled 8 x) (bits_of xs) (bits_of ys))

pub take_past : (k : ℕ) (xs ys : List Bool) → take (length xs + k) (xs ++ ys) ≡ xs ++ take k ys
take_past k [] ys = let e : 0 + k ≡ k = omega arith in ap (λ n. take n ys) e
take_past k (x ∷ xs) ys = let e : suc (length xs) + k ≡ suc (length xs + k) = omega arith in ap (λ n. take n (x ∷ (xs ++ ys))) e ∙ ap (λ (zs : List Bool). x ∷ zs) (take_past k xs ys)

pub drop_past : (k : ℕ) (xs ys : List Bool) → drop (length xs + k) (xs ++ ys) ≡ drop k ys
drop_past k [] ys = let e : 0 + k ≡ k = omega arith in ap (λ n. drop n ys) e
drop_past k (x ∷ xs) ys = let e : suc (length xs) + k ≡ suc (length xs + k) = omega arith in ap (λ n. drop n (x ∷ (xs ++ ys))) e ∙ drop_past k xs ys

pub bits_of-take : (k : ℕ) (bytes : List ℕ) → bits_of (take k bytes) ≡ take (8 * k) (bits_of bytes)
unfolding bits_of
bits_of-take zero bytes = refl
bits_of-take (suc k) [] = sym (take_all (8 * suc k) [] (omega arith))
bits_of-take (suc k) (b ∷ bs) =
    ap (λ (xs : List Bool). spelled 8 b ++ xs) (bits_of-take k bs)
    ∙ sym (take_past (8 * k) (spelled 8 b) (bits_of bs))
    ∙ (let e : length (spelled 8 b) + 8 * k ≡ 8 * suc k = omega (arith, length-spelled 8 b) in ap (λ n. take n (spelled 8 b ++ bits_of bs)) e)

pub bits_of-drop : (k : ℕ) (bytes : List ℕ) → bits_of (drop k bytes) ≡ drop (8 * k) (bits_of bytes)
unfolding bits_of
bits_of-drop zero bytes = refl
bits_of-drop (suc k) [] = sym (drop_all (8 * suc k) [] (omega arith))
bits_of-drop (suc k) (b ∷ bs) =
    bits_of-drop k bs
    ∙ sym (drop_past (8 * k) (spelled 8 b) (bits_of bs))
    ∙ (let e : length (spelled 8 b) + 8 * k ≡ 8 * suc k = omega (arith, length-spelled 8 b) in ap (λ n. drop n (spelled 8 b ++ bits_of bs)) e)

pub bits_of-replicate : (k : ℕ) → bits_of (replicate k 0) ≡ replicate (8 * k) false
unfolding bits_of
bits_of-replicate zero = refl
bits_of-replicate (suc k) =
    ap₂ (λ (xs ys : List Bool). xs ++ ys) (spelled-zero 8) (bits_of-replicate k)
    ∙ replicate-append-replicate 8 (8 * k) false
    ∙ (let e : 8 + 8 * k ≡ 8 * suc k = omega arith in ap (λ n. replicate n false) e)

pow_bytes : (k : ℕ) → 2 ^ (8 * k) ≡ 256 ^ k
pow_bytes zero = refl
pow_bytes (suc k) = ap (λ n. 2 ^ n) (omega arith) ∙ pow-add 2 (8 * k) 8 ∙ ap (λ n. n * 256) (pow_bytes k) ∙ sym (pow-suc 256 k)

-- byte k of a number has its eight bits above the lowest 8 k
spelled_byte : (k n : ℕ) → spelled 8 (byte_at k n) ≡ spelled 8 (n / 2 ^ (8 * k))
spelled_byte zero n = spelled-mod 8 n ∙ ap (spelled 8) (grind arith)
spelled_byte (suc k) n = spelled-mod 8 (n / 256 ^ suc k) ∙ ap (λ d. spelled 8 (n / d)) (sym (pow_bytes (suc k)))

bits_of-high_first : (k n : ℕ) → bits_of (bytes_high_first k n) ≡ spelled (8 * k) n
unfolding bits_of spelled
bits_of-high_first zero n = refl
bits_of-high_first (suc k) n =
    ap₂ (λ (xs ys : List Bool). xs ++ ys) (spelled_byte k n) (bits_of-high_first k n)
    ∙ sym (spelled-append 8 (8 * k) n)
    ∙ (let e : 8 + 8 * k ≡ 8 * suc k = omega arith in ap (λ m. spelled m n) e)

pub bits_of-word : (n : ℕ) → bits_of (to_be_bytes w64 n) ≡ spelled 64 n
bits_of-word n = bits_of-high_first 8 n

-- the number that eight bytes are
pub word_of : (bytes : List ℕ) (n : ℕ) → length bytes ≡ 8 → ((i : ℕ) → get_or bytes i 0 < 256) → n ≡ from_be_bytes w64 bytes → spelled 64 n ≡ bits_of bytes
word_of bytes n len below e = sym (bits_of-word n) ∙ ap bits_of (be_bytes_8 bytes n len below e)

-- a list of at least eight items begins with these
pub first_eight : (xs : List ℕ) → 8 ≤ length xs →
    get_or xs 0 0 ∷ get_or xs 1 0 ∷ get_or xs 2 0 ∷ get_or xs 3 0 ∷ get_or xs 4 0 ∷ get_or xs 5 0 ∷ get_or xs 6 0 ∷ get_or xs 7 0 ∷ [] ≡ take 8 xs
first_eight (a ∷ b ∷ c ∷ d ∷ e ∷ f ∷ g ∷ h ∷ xs) long = refl
first_eight xs long = absurd (omega arith)

-- a whole word of bytes, and fewer bytes with zero bytes behind them
pub whole_word : (bytes : List ℕ) → 8 ≤ length bytes → bits_of (take 8 bytes) ≡ take 64 (bits_of bytes ++ replicate 64 false)
whole_word bytes long =
    bits_of-take 8 bytes ∙ sym (take-append-le 64 (bits_of bytes) (replicate 64 false) (omega (arith, length-bits_of bytes)))

pub short_word : (bytes : List ℕ) → length bytes ≤ 8 → bits_of (bytes ++ drop (length bytes) (replicate 8 0)) ≡ take 64 (bits_of bytes ++ replicate 64 false)
short_word bytes short =
    let n = length bytes in
    let e : length (bits_of bytes) + (64 - 8 * n) ≡ 64 = omega (arith, length-bits_of bytes) in
    let f : 8 * (8 - n) ≡ 64 - 8 * n = omega arith in
    bits_of-append bytes (drop n (replicate 8 0))
    ∙ ap (λ (bs : List ℕ). bits_of bytes ++ bits_of bs) (drop-replicate n 8 0)
    ∙ ap (λ (bs : List Bool). bits_of bytes ++ bs) (bits_of-replicate (8 - n))
    ∙ ap (λ k. bits_of bytes ++ replicate k false) f
    ∙ ap (λ (bs : List Bool). bits_of bytes ++ bs) (sym (take-replicate (64 - 8 * n) 64 false (omega arith)))
    ∙ sym (take_past (64 - 8 * n) (bits_of bytes) (replicate 64 false))
    ∙ ap (λ k. take k (bits_of bytes ++ replicate 64 false)) e

pub items_from_front : (xs ys : List ℕ) → ((i : ℕ) → get_or xs i 0 < 256) → ((i : ℕ) → get_or ys i 0 < 256) → (i : ℕ) → get_or (xs ++ ys) i 0 < 256
items_from_front [] ys p q i = q i
items_from_front (x ∷ xs) ys p q zero = p zero
items_from_front (x ∷ xs) ys p q (suc i) = items_from_front xs ys (λ k. p (suc k)) q i

-- a word of bytes written over the front of others, as far as these reach
pub written_word : (bytes : List ℕ) (w count : ℕ) (piece : List ℕ) → count ≡ min (length bytes) 8 → piece ≡ take count (to_be_bytes w64 w) →
    bits_of (piece ++ drop count bytes) ≡ take (8 * length bytes) (spelled 64 w ++ drop 64 (bits_of bytes))
written_word bytes w count piece e f =
    let n = length bytes in
    let b = length-bits_of bytes in
    let lw = length-spelled 64 w in
    bits_of-append piece (drop count bytes)
    ∙ ap₂ (λ (xs ys : List Bool). xs ++ ys) (ap bits_of f ∙ bits_of-take count (to_be_bytes w64 w) ∙ ap (take (8 * count)) (bits_of-word w)) (bits_of-drop count bytes)
    ∙ elim (cases_lt n 8) [
      | inl short ↦
          let k : count ≡ n = omega (arith, e) in
          ap (λ m. take (8 * m) (spelled 64 w) ++ drop (8 * m) (bits_of bytes)) k
          ∙ ap (λ (xs : List Bool). take (8 * n) (spelled 64 w) ++ xs) (drop_all (8 * n) (bits_of bytes) (omega arith))
          ∙ append-nil (take (8 * n) (spelled 64 w))
          ∙ sym (take-append-le (8 * n) (spelled 64 w) (drop 64 (bits_of bytes)) (omega arith))
      | inr long ↦
          let k : count ≡ 8 = omega (arith, e) in
          ap (λ m. take (8 * m) (spelled 64 w) ++ drop (8 * m) (bits_of bytes)) k
          ∙ ap (λ (xs : List Bool). xs ++ drop 64 (bits_of bytes)) (take_all 64 (spelled 64 w) (omega arith))
          ∙ sym (take_all (8 * n) (spelled 64 w ++ drop 64 (bits_of bytes)) (omega (arith, length-append (spelled 64 w) (drop 64 (bits_of bytes)), length-drop 64 (bits_of bytes))))
    ]

pub items_of_take : (k : ℕ) (xs : List ℕ) → ((i : ℕ) → get_or xs i 0 < 256) → (i : ℕ) → get_or (take k xs) i 0 < 256
items_of_take zero xs p i = omega arith
items_of_take (suc k) [] p i = omega arith
items_of_take (suc k) (x ∷ xs) p zero = p zero
items_of_take (suc k) (x ∷ xs) p (suc i) = items_of_take k xs (λ j. p (suc j)) i

pub items_of_drop : (k : ℕ) (xs : List ℕ) → ((i : ℕ) → get_or xs i 0 < 256) → (i : ℕ) → get_or (drop k xs) i 0 < 256
items_of_drop zero xs p i = p i
items_of_drop (suc k) [] p i = omega arith
items_of_drop (suc k) (x ∷ xs) p i = items_of_drop k xs (λ j. p (suc j)) i

zero_items : (k i : ℕ) → get_or (replicate k 0) i 0 < 256
zero_items zero i = omega arith
zero_items (suc k) zero = omega arith
zero_items (suc k) (suc i) = zero_items k i

-- bytes with zero bytes behind them are a word
pub padded_word : (bytes : List ℕ) (n : ℕ) → length bytes ≤ 8 → ((i : ℕ) → get_or bytes i 0 < 256) → n ≡ from_be_bytes w64 (bytes ++ drop (length bytes) (replicate 8 0)) →
    spelled 64 n ≡ take 64 (bits_of bytes ++ replicate 64 false)
padded_word bytes n short below e =
    let zeros = drop (length bytes) (replicate 8 0) in
    let len : length (bytes ++ zeros) ≡ 8 = omega (arith, length-append bytes zeros, length-drop {A = ℕ} (length bytes) (replicate 8 0), length-replicate {A = ℕ} 8 0) in
    word_of (bytes ++ zeros) n len (items_from_front bytes zeros below (items_of_drop (length bytes) (replicate 8 0) (zero_items 8))) e
    ∙ short_word bytes short

pub front_word : (bytes : List ℕ) (n : ℕ) → 8 ≤ length bytes → ((i : ℕ) → get_or bytes i 0 < 256) → n ≡ from_be_bytes w64 (take 8 bytes) →
    spelled 64 n ≡ take 64 (bits_of bytes ++ replicate 64 false)
front_word bytes n long below e =
    word_of (take 8 bytes) n (length-take-le 8 bytes long) (items_of_take 8 bytes below) e ∙ whole_word bytes long
