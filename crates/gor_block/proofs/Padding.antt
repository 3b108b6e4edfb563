-- The bits behind a code.
use Rattle.std.proofs.Common.{◌≡◌, ℕ, zero, suc, ◌+◌, ◌-◌, ◌%◌, ◌<◌, ◌≤◌, List, [], ◌∷◌, ◌++◌, length, take, drop, replicate, Bool, true, false, ap, ap₂, sym, ◌∙◌, arith}
use Rattle.std.specs.Prelude.{nat_eq}
use Rattle.std.proofs.lemmas.List.{replicate-append-replicate, take-append-drop, drop-drop, drop-replicate}
use Rattle.std.proofs.Math.Seq.{drop-append_seam}
use Rattle.gor_bits.specs.Spelled.{spelled}
use Rattle.gor_bits.proofs.Pieces.{seen_twice}
use Rattle.gor_block.specs.Faults.{IsFirstSet, IsPadded}

pub one_bit : (b : ℕ) → b < 2 → spelled 1 b ≡ nat_eq b 1 ∷ []
unfolding spelled
one_bit b small = ap (λ k. nat_eq k 1 ∷ []) (let e : b % 2 ≡ b = omega arith in e)

pub zeros_more : (bits : List Bool) (at place : ℕ) → at ≤ place → take (place - at) (drop at bits) ≡ replicate (place - at) false → take 1 (drop place bits) ≡ false ∷ [] →
    take (place + 1 - at) (drop at bits) ≡ replicate (place + 1 - at) false
zeros_more bits at place up zeros one =
    let n = place - at in
    let more : place + 1 - at ≡ n + 1 = omega arith in
    let here : at + n ≡ place = omega arith in
    ap (λ k. take k (drop at bits)) more
    ∙ seen_twice bits at n 1
    ∙ ap₂ (λ (xs ys : List Bool). xs ++ ys) zeros (ap (λ k. take 1 (drop k bits)) here ∙ one)
    ∙ replicate-append-replicate n 1 false
    ∙ ap (λ k. replicate k false) (sym more)

-- where all bits left are zero, none is the first set one
pub padded_apart : (bits : List Bool) (end at : ℕ) → IsPadded bits end → IsFirstSet bits end at → ⊥
padded_apart bits end at p f =
    let n = length bits - end in
    let k = at - end in
    let here : end + k ≡ at = omega (arith, f.behind) in
    let rest : drop at bits ≡ replicate (n - k) false = ap (λ j. drop j bits) (sym here) ∙ sym (drop-drop k end bits) ∙ ap (drop k) p.zeros ∙ drop-replicate k n false in
    by_count (n - k) (sym f.set ∙ ap (take 1) rest) where
      by_count : (j : ℕ) → ◌≡◌ {A = List Bool} (true ∷ []) (take 1 (replicate j false)) → ⊥
      by_count zero e = cc
      by_count (suc j) e = cc

-- a code with its padding is all the bits
pub padded_whole : (bits code : List Bool) (end : ℕ) → end ≡ length code → take end bits ≡ code → IsPadded bits end → bits ≡ code ++ replicate (length bits - length code) false
padded_whole bits code end size front p =
    sym (take-append-drop end bits) ∙ ap₂ (λ (xs ys : List Bool). xs ++ ys) front (p.zeros ∙ ap (λ k. replicate (length bits - k) false) size)

pub padded_of : (bits code : List Bool) (end : ℕ) → end ≡ length code → bits ≡ code ++ replicate (length bits - length code) false → length bits < length code + 8 → IsPadded bits end
padded_of bits code end size is least = record {
  least = omega (arith, size, least);
  zeros = ap (λ k. drop k bits) size ∙ ap (drop (length code)) is ∙ drop-append_seam code (replicate (length bits - length code) false) ∙ ap (λ k. replicate (length bits - k) false) (sym size);
}
