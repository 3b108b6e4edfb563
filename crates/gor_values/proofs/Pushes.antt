-- Numbers pushed one after another.
use Rattle.std.proofs.Common.{◌≡◌, ℕ, zero, suc, ◌-◌, ◌/◌, ◌%◌, List, [], ◌∷◌, ◌++◌, length, Bool, refl, ap, ap₂, sym, ◌∙◌, arith, append_assoc, length-append}
use Rattle.std.specs.Prelude.{nat_eq}
use Rattle.gor_bits.specs.BitString.{BitString}
use Rattle.gor_bits.specs.Spelled.{spelled}
use Rattle.gor_bits.proofs.Words.{length-spelled}
use Rattle.gor_model.specs.Codes.{bits}

-- both crates spell a number alike
pub same_bits : (n v : ℕ) → spelled n v ≡ bits n v
unfolding spelled bits
same_bits zero v = refl
same_bits (suc n) v = ap (λ (xs : List Bool). xs ++ nat_eq (v % 2) 1 ∷ []) (same_bits n (v / 2))

pub length-bits : (n v : ℕ) → length (bits n v) ≡ n
length-bits n v = ap length (sym (same_bits n v)) ∙ length-spelled n v

-- some bits follow, and the room falls by as many
abbrev pub Follows : BitString → List Bool → BitString → Type 0
Follows old code new = new ≡ record { bits = old.bits ++ code; spare = old.spare - length code }

pub follows : (old new : BitString) (n v : ℕ) → new ≡ record { bits = old.bits ++ spelled n v; spare = old.spare - n } → Follows old (bits n v) new
follows old new n v e =
    e ∙ ap₂ {C = BitString} (λ (xs : List Bool) k. record { bits = old.bits ++ xs; spare = old.spare - k }) (same_bits n v) (sym (length-bits n v))

pub follows_twice : (old middle new : BitString) (a b : List Bool) → Follows old a middle → Follows middle b new → Follows old (a ++ b) new
follows_twice old middle new a b e f =
    let front : middle.bits ≡ old.bits ++ a = ap {B = List Bool} (λ (s : BitString). s.bits) e in
    let room : middle.spare ≡ old.spare - length a = ap {B = ℕ} (λ (s : BitString). s.spare) e in
    let all : middle.bits ++ b ≡ old.bits ++ (a ++ b) = ap (λ (xs : List Bool). xs ++ b) front ∙ append_assoc old.bits a b in
    let left : middle.spare - length b ≡ old.spare - length (a ++ b) = omega (arith, length-append a b) in
    f ∙ ap₂ {C = BitString} (λ (xs : List Bool) k. record { bits = xs; spare = k }) all left

pub follows_as : (old new : BitString) (a b : List Bool) → Follows old a new → a ≡ b → Follows old b new
follows_as old new a b e f = e ∙ ap {B = BitString} (λ (xs : List Bool). record { bits = old.bits ++ xs; spare = old.spare - length xs }) f
