-- Numbers as bits: parts, shifts and lengths.
use Rattle.std.proofs.Common.{◌≡◌, ℕ, zero, suc, ◌+◌, ◌-◌, ◌*◌, ◌/◌, ◌%◌, ◌^◌, ◌<◌, ◌≤◌, List, [], ◌∷◌, ◌++◌, length, take, drop, replicate, Bool, false, refl, ap, ap₂, sym, ◌∙◌, arith, append_assoc, length-append, add-one}
use Rattle.std.specs.Prelude.{nat_eq}
use Rattle.std.proofs.Math.Nat.{div-div-eq-div-mul, add-mul-div_right, add-mul-mod_self_right, div-one, pow-suc, mod-add-div'}
use Rattle.std.proofs.lemmas.Nat.{shr_high, pow_pos, mod_below}
use Rattle.std.proofs.lemmas.List.{append-nil, replicate_more, take_at, drop_at, take-append-le, same_from_push}
use Rattle.gor_bits.specs.Spelled.{spelled}

pub length-spelled : (n v : ℕ) → length (spelled n v) ≡ n
unfolding spelled
length-spelled zero v = refl
length-spelled (suc n) v = length-append (spelled n (v / 2)) (nat_eq (v % 2) 1 ∷ []) ∙ omega (arith, length-spelled n (v / 2))

double : (b : ℕ) → 2 ^ suc b ≡ 2 ^ b * 2
double b = pow-suc 2 b

halves : (v b : ℕ) → v / 2 / 2 ^ b ≡ v / 2 ^ suc b
halves v b = div-div-eq-div-mul v 2 (2 ^ b) ∙ ap (λ n. v / n) (omega (arith, double b))

-- the higher bits, then the lower ones
pub spelled-append : (a b v : ℕ) → spelled (a + b) v ≡ spelled a (v / 2 ^ b) ++ spelled b v
unfolding spelled
spelled-append a zero v = let e : a + 0 ≡ a = omega arith in ap (λ n. spelled n v) e ∙ ap (spelled a) (sym (div-one v)) ∙ sym (append-nil (spelled a (v / 2 ^ 0)))
spelled-append a (suc b) v =
    let last = nat_eq (v % 2) 1 ∷ [] in
    let e : a + suc b ≡ suc (a + b) = omega arith in
    ap (λ n. spelled n v) e
    ∙ ap (λ (xs : List Bool). xs ++ last) (spelled-append a b (v / 2))
    ∙ append_assoc (spelled a (v / 2 / 2 ^ b)) (spelled b (v / 2)) last
    ∙ ap (λ k. spelled a k ++ (spelled b (v / 2) ++ last)) (halves v b)

-- what stands above the lowest n bits is not seen
pub spelled_low : (n x y : ℕ) → spelled n (x + y * 2 ^ n) ≡ spelled n x
unfolding spelled
spelled_low zero x y = refl
spelled_low (suc n) x y =
    let e : y * 2 ^ suc n ≡ y * 2 ^ n * 2 = omega (arith, ap (λ k. y * k) (double n)) in
    let half : (x + y * 2 ^ suc n) / 2 ≡ x / 2 + y * 2 ^ n = ap (λ k. (x + k) / 2) e ∙ add-mul-div_right x (y * 2 ^ n) (omega arith) in
    let last : (x + y * 2 ^ suc n) % 2 ≡ x % 2 = ap (λ k. (x + k) % 2) e ∙ add-mul-mod_self_right x (y * 2 ^ n) 2 in
    ap₂ (λ a b. spelled n a ++ nat_eq b 1 ∷ []) half last ∙ ap (λ (xs : List Bool). xs ++ nat_eq (x % 2) 1 ∷ []) (spelled_low n (x / 2) y)

pub spelled-mod : (n v : ℕ) → spelled n (v % 2 ^ n) ≡ spelled n v
spelled-mod n v = sym (spelled_low n (v % 2 ^ n) (v / 2 ^ n)) ∙ ap (spelled n) (mod-add-div' v (2 ^ n))

pub spelled-zero : (n : ℕ) → spelled n 0 ≡ replicate n false
unfolding spelled
spelled-zero zero = refl
spelled-zero (suc n) = ap (λ (xs : List Bool). xs ++ false ∷ []) (spelled-zero n) ∙ replicate_more n false ∙ ap (λ k. replicate k false) (add-one n)

-- a number put in front of another
pub spelled-join : (a b h l : ℕ) → l < 2 ^ b → spelled (a + b) (h * 2 ^ b + l) ≡ spelled a h ++ spelled b l
spelled-join a b h l below =
    spelled-append a b (h * 2 ^ b + l)
    ∙ ap₂ (λ x (ys : List Bool). spelled a x ++ ys) (shr_high h b l below) (ap (spelled b) (omega arith) ∙ spelled_low b l h)

pub spelled-shl : (a b v : ℕ) → spelled (a + b) (v * 2 ^ b) ≡ spelled a v ++ replicate b false
spelled-shl a b v = ap (spelled (a + b)) (omega arith) ∙ spelled-join a b v 0 (pow_pos b) ∙ ap (λ (xs : List Bool). spelled a v ++ xs) (spelled-zero b)

pub take-spelled : (a b v : ℕ) → take a (spelled (a + b) v) ≡ spelled a (v / 2 ^ b)
take-spelled a b v = ap (take a) (spelled-append a b v) ∙ take_at (spelled a (v / 2 ^ b)) (spelled b v) a (length-spelled a (v / 2 ^ b))

pub drop-spelled : (a b v : ℕ) → drop a (spelled (a + b) v) ≡ spelled b v
drop-spelled a b v = ap (drop a) (spelled-append a b v) ∙ drop_at (spelled a (v / 2 ^ b)) (spelled b v) a (length-spelled a (v / 2 ^ b))

same_parity : (a b : ℕ) → a < 2 → b < 2 → nat_eq a 1 ≡ nat_eq b 1 → a ≡ b
same_parity zero zero p q e = refl
same_parity zero (suc zero) p q e = cc
same_parity (suc zero) zero p q e = cc
same_parity (suc zero) (suc zero) p q e = refl
same_parity (suc (suc a)) b p q e = omega arith
same_parity a (suc (suc b)) p q e = omega arith

-- one number alone has given bits
pub spelled_apart : (n v w : ℕ) → v < 2 ^ n → w < 2 ^ n → spelled n v ≡ spelled n w → v ≡ w
unfolding spelled
spelled_apart zero v w p q e = omega arith
spelled_apart (suc n) v w p q e =
    let parts = same_from_push (spelled n (v / 2)) (spelled n (w / 2)) (nat_eq (v % 2) 1) (nat_eq (w % 2) 1) e in
    let high : v / 2 ≡ w / 2 = spelled_apart n (v / 2) (w / 2) (omega (arith, double n)) (omega (arith, double n)) parts.0 in
    let low : v % 2 ≡ w % 2 = same_parity (v % 2) (w % 2) (omega arith) (omega arith) parts.1 in
    omega arith

-- what a shift to the left and then one to the right leave of a word
pub word_piece : (w skip n : ℕ) → skip + n ≤ 64 → spelled n (w * 2 ^ skip % 2 ^ 64 / 2 ^ (64 - n)) ≡ take n (drop skip (spelled 64 w))
word_piece w skip n room =
    let left : skip + (64 - skip) ≡ 64 = omega arith in
    let right : 64 - skip + skip ≡ 64 = omega arith in
    let high : n + (64 - n) ≡ 64 = omega arith in
    let shifted : spelled 64 (w * 2 ^ skip % 2 ^ 64) ≡ spelled (64 - skip) w ++ replicate skip false =
    spelled-mod 64 (w * 2 ^ skip) ∙ ap (λ k. spelled k (w * 2 ^ skip)) (sym right) ∙ spelled-shl (64 - skip) skip w in
    let rest : drop skip (spelled 64 w) ≡ spelled (64 - skip) w =
    ap (λ k. drop skip (spelled k w)) (sym left) ∙ drop-spelled skip (64 - skip) w in
    sym (take-spelled n (64 - n) (w * 2 ^ skip % 2 ^ 64))
    ∙ ap (λ k. take n (spelled k (w * 2 ^ skip % 2 ^ 64))) high
    ∙ ap (take n) shifted
    ∙ take-append-le n (spelled (64 - skip) w) (replicate skip false) (omega (arith, length-spelled (64 - skip) w))
    ∙ ap (take n) (sym rest)

-- a word with n of its bits replaced
pub word_with : (w skip n low v : ℕ) → skip + n + low ≡ 64 → v < 2 ^ n →
    spelled 64 ((w / 2 ^ (64 - skip) * 2 ^ n + v) * 2 ^ low + w % 2 ^ low) ≡ take skip (spelled 64 w) ++ spelled n v ++ drop (skip + n) (spelled 64 w)
word_with w skip n low v whole below =
    let high : skip + (64 - skip) ≡ 64 = omega arith in
    let front : take skip (spelled 64 w) ≡ spelled skip (w / 2 ^ (64 - skip)) =
    ap (λ k. take skip (spelled k w)) (sym high) ∙ take-spelled skip (64 - skip) w in
    let back : drop (skip + n) (spelled 64 w) ≡ spelled low (w % 2 ^ low) =
    ap (λ k. drop (skip + n) (spelled k w)) (sym whole) ∙ drop-spelled (skip + n) low w ∙ sym (spelled-mod low w) in
    ap (λ k. spelled k ((w / 2 ^ (64 - skip) * 2 ^ n + v) * 2 ^ low + w % 2 ^ low)) (sym whole)
    ∙ spelled-join (skip + n) low (w / 2 ^ (64 - skip) * 2 ^ n + v) (w % 2 ^ low) (mod_below w (2 ^ low) (pow_pos low))
    ∙ ap (λ (xs : List Bool). xs ++ spelled low (w % 2 ^ low)) (spelled-join skip n (w / 2 ^ (64 - skip)) v below)
    ∙ ap₂ (λ (xs ys : List Bool). xs ++ spelled n v ++ ys) (sym front) (sym back)
