-- The code of a change, case by case.
use Rattle.std.proofs.Common.{◌≡◌, ℕ, ◌+◌, ◌-◌, ◌%◌, ◌^◌, ◌<◌, ◌≤◌, ◌≢◌, ◌⊎◌, [], ◌∷◌, ◌++◌, length, true, false, ap, arith, inl, inr}
use Rattle.std.proofs.lemmas.Bool.Decides.{nat_tests}
use Rattle.std.proofs.lemmas.Bool.{cases_lt, cases_eq}
use Rattle.gor_model.specs.Codes.{bits, time_code}
use Rattle.gor_times.proofs.Fields.{length-bits}

pub code_same : (d e : ℕ) → d ≡ e → time_code d e ≡ false ∷ []
unfolding time_code
code_same d e h = grind (arith, nat_tests)

pub code_near : (d e : ℕ) → d ≢ e → d ≤ e + 63 → e ≤ d + 64 → time_code d e ≡ (true ∷ false ∷ []) ++ bits 7 (e + 63 - d)
unfolding time_code
code_near d e h low high = grind (arith, nat_tests)

pub code_middle : (d e : ℕ) → (e + 63 < d) ⊎ (d + 64 < e) → d ≤ e + 255 → e ≤ d + 256 → time_code d e ≡ (true ∷ true ∷ false ∷ []) ++ bits 9 (e + 255 - d)
unfolding time_code
code_middle d e h low high = grind (arith, nat_tests)

pub code_far : (d e : ℕ) → (e + 255 < d) ⊎ (d + 256 < e) → d ≤ e + 2047 → e ≤ d + 2048 → time_code d e ≡ (true ∷ true ∷ true ∷ false ∷ []) ++ bits 12 (e + 2047 - d)
unfolding time_code
code_far d e h low high = grind (arith, nat_tests)

pub code_whole : (d e : ℕ) → (e + 2047 < d) ⊎ (d + 2048 < e) → time_code d e ≡ (true ∷ true ∷ true ∷ true ∷ []) ++ bits 32 ((e + 2 ^ 32 - d) % 2 ^ 32)
unfolding time_code
code_whole d e h = grind (arith, nat_tests)

-- how long a code is at most
pub near_long : (d e : ℕ) → d ≤ e + 63 → e ≤ d + 64 → length (time_code d e) ≤ 9
near_long d e low high = elim (cases_eq d e) [
  | inl same ↦ omega (arith, ap length (code_same d e same))
  | inr other ↦ omega (arith, ap length (code_near d e other low high), length-bits 7 (e + 63 - d))
]

pub middle_long : (d e : ℕ) → d ≤ e + 255 → e ≤ d + 256 → length (time_code d e) ≤ 12
middle_long d e low high = elim (cases_lt (e + 63) d) [
  | inl under ↦ omega (arith, ap length (code_middle d e (inl under) low high), length-bits 9 (e + 255 - d))
  | inr some ↦ elim (cases_lt (d + 64) e) [
    | inl over ↦ omega (arith, ap length (code_middle d e (inr over) low high), length-bits 9 (e + 255 - d))
    | inr within ↦ omega (arith, near_long d e some within)
  ]
]

pub far_long : (d e : ℕ) → d ≤ e + 2047 → e ≤ d + 2048 → length (time_code d e) ≤ 16
far_long d e low high = elim (cases_lt (e + 255) d) [
  | inl under ↦ omega (arith, ap length (code_far d e (inl under) low high), length-bits 12 (e + 2047 - d))
  | inr some ↦ elim (cases_lt (d + 256) e) [
    | inl over ↦ omega (arith, ap length (code_far d e (inr over) low high), length-bits 12 (e + 2047 - d))
    | inr within ↦ omega (arith, middle_long d e some within)
  ]
]
