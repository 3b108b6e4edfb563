-- The bytes behind the blocks: they are zero exactly where reading them meets no fault.
use Rattle.std.proofs.Common.{◌≡◌, ℕ, zero, suc, ◌+◌, ◌<◌, ◌≤◌, Bool, true, false, cond, eqb, List, [], ◌∷◌, length, drop, get_or, replicate, Result, Ok, refl, sym, ap, ◌∙◌, arith}
use Rattle.std.proofs.lemmas.Bool.{eqb-true, ne_eqb}
use Rattle.std.proofs.lemmas.List.{drop_more, length-drop}
use Rattle.gor_model.specs.declared.wrong.Wrong.TheVariants.{Padding}
use Rattle.gor_model.specs.declared.wrong.Misread.{Misread}
use Rattle.gor_model.specs.Fields.{wrong}
use Rattle.gor_slab.specs.Reading.{zeros_in}

abbrev Read : Type 0
Read = Result (Unit {0}) Misread

cons_zero : (at b : ℕ) (others : List ℕ) → b ≡ 0 → zeros_in at (b ∷ others) ≡ zeros_in (at + 1) others
unfolding zeros_in
cons_zero at b others is = rw is refl

cons_wrong : (at b : ℕ) (others : List ℕ) → (b ≡ 0 → ⊥) → zeros_in at (b ∷ others) ≡ wrong at Padding
unfolding zeros_in
cons_wrong at b others is = rw (ne_eqb b 0 is) refl

-- one step of the loop, its fault, and its end
pub zeros_more : (at i : ℕ) (bytes : List ℕ) (total : Read) → i < length bytes → get_or bytes i 0 ≡ 0 → zeros_in (at + i) (drop i bytes) ≡ total → zeros_in (at + (i + 1)) (drop (i + 1) bytes) ≡ total
zeros_more at i bytes total lt is so_far =
    let next : at + i + 1 ≡ at + (i + 1) = omega arith in
    ap (λ (k : ℕ). zeros_in k (drop (i + 1) bytes)) (sym next) ∙ (sym (cons_zero (at + i) (get_or bytes i 0) (drop (i + 1) bytes) is) ∙ (ap (zeros_in (at + i)) (sym (drop_more bytes i 0 lt)) ∙ so_far))

pub zeros_stop : (at i : ℕ) (bytes : List ℕ) (total : Read) → i < length bytes → (get_or bytes i 0 ≡ 0 → ⊥) → zeros_in (at + i) (drop i bytes) ≡ total → total ≡ wrong (at + i) Padding
zeros_stop at i bytes total lt is so_far =
    sym so_far ∙ (ap (zeros_in (at + i)) (drop_more bytes i 0 lt) ∙ cons_wrong (at + i) (get_or bytes i 0) (drop (i + 1) bytes) is)

nothing : (at : ℕ) (bytes : List ℕ) → length bytes ≡ 0 → zeros_in at bytes ≡ Ok tt
unfolding zeros_in
nothing at [] none = refl
nothing at (b ∷ others) none = absurd (omega arith)

pub zeros_end : (at i : ℕ) (bytes : List ℕ) (total : Read) → length bytes ≤ i → zeros_in (at + i) (drop i bytes) ≡ total → total ≡ Ok tt
zeros_end at i bytes total le so_far = sym so_far ∙ nothing (at + i) (drop i bytes) (omega (arith, length-drop i bytes))

-- ---- both ways

pub zeros_take : (at : ℕ) (bytes : List ℕ) → zeros_in at bytes ≡ Ok tt → bytes ≡ replicate (length bytes) 0
unfolding zeros_in
zeros_take at [] e = refl
zeros_take at (b ∷ others) e = by (eqb b 0) refl (zeros_take (at + 1) others) e where
  by : (t : Bool) → eqb b 0 ≡ t → (zeros_in (at + 1) others ≡ Ok tt → others ≡ replicate (length others) 0) → cond t (zeros_in (at + 1) others) (wrong at Padding) ≡ Ok tt
      → b ∷ others ≡ replicate (length (b ∷ others)) 0
  by true is ih h = rw (eqb-true b 0 is) (ap (λ (r : List ℕ). 0 ∷ r) (ih h))
  by false is ih h = absurd cc

pub zeros_again : (at n : ℕ) → zeros_in at (replicate n 0) ≡ Ok tt
unfolding zeros_in
zeros_again at zero = refl
zeros_again at (suc n) = zeros_again (at + 1) n
