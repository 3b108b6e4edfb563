-- The lines of a text, from the front on.
use Rattle.std.proofs.Common.{◌≡◌, ◌≢◌, ℕ, suc, ◌+◌, ◌<◌, ◌≤◌, List, [], ◌∷◌, length, take, drop, get_or, Bool, true, false, cond, refl, sym, ap, append-nil, drop-cons, add-one}
use Rattle.std.specs.Prelude.{nat_eq}
use Rattle.std.proofs.Math.Seq.{take-suc}
use Rattle.std.proofs.lemmas.List.{take_all, drop_all}
use Rattle.std.proofs.lemmas.Bool.{eqb-true}
use Rattle.gor_text.specs.Grammar.{onto_first, lines_of}
use Rattle.gor_text.proofs.Words.{onto_front, onto_front-nil, onto_front-onto_first}

lines_of-other : (byte : ℕ) (bytes : List ℕ) → byte ≢ 10 → lines_of (byte ∷ bytes) ≡ onto_first byte (lines_of bytes)
lines_of-other byte bytes other = at (nat_eq byte 10) refl where
  at : (b : Bool) → nat_eq byte 10 ≡ b → cond b ([] ∷ lines_of bytes) (onto_first byte (lines_of bytes)) ≡ onto_first byte (lines_of bytes)
  at true is = absurd (other (eqb-true byte 10 is))
  at false is = refl

lines_of-lf : (byte : ℕ) (bytes : List ℕ) → byte ≡ 10 → lines_of (byte ∷ bytes) ≡ [] ∷ lines_of bytes
lines_of-lf byte bytes is = rw is refl

-- a text that is not empty has a first line
first_of : (text : List ℕ) → text ≢ [] → (line : List ℕ) × ((more : List (List ℕ)) × (lines_of text ≡ line ∷ more))
first_of [] some = absurd (some refl)
first_of (byte ∷ bytes) some = at (nat_eq byte 10) refl where
  behind : (parts : List (List ℕ)) → (line : List ℕ) × ((more : List (List ℕ)) × (onto_first byte parts ≡ line ∷ more))
  behind [] = (byte ∷ [], ([], refl))
  behind (part ∷ parts) = (byte ∷ part, (parts, refl))

  at : (b : Bool) → nat_eq byte 10 ≡ b → (line : List ℕ) × ((more : List (List ℕ)) × (cond b ([] ∷ lines_of bytes) (onto_first byte (lines_of bytes)) ≡ line ∷ more))
  at true is = ([], (lines_of bytes, refl))
  at false is = behind (lines_of bytes)

pub starts : (text : List ℕ) → text ≢ [] → onto_front [] (lines_of text) ≡ lines_of text
starts text some = let first = first_of text some in onto_front-nil (lines_of text) first.0 first.1.0 first.1.1

-- a byte that is no LF goes onto the line before it
pub line_goes_on : (text : List ℕ) (i : ℕ) → i < length text → get_or text i 0 ≢ 10
    → onto_front (take (i + 1) text) (lines_of (drop (i + 1) text)) ≡ onto_front (take i text) (lines_of (drop i text))
line_goes_on text i below other =
    rw (add-one, take-suc text i 0 below, drop-cons text i 0 below, lines_of-other (get_or text i 0) (drop (suc i) text) other)
    (sym (onto_front-onto_first (take i text) (get_or text i 0) (lines_of (drop (suc i) text))))

-- an LF ends the line before it
pub line_ends : (text : List ℕ) (i : ℕ) → i < length text → get_or text i 0 ≡ 10
    → onto_front (take i text) (lines_of (drop i text)) ≡ take i text ∷ lines_of (drop (i + 1) text)
line_ends text i below is =
    rw (add-one, drop-cons text i 0 below, lines_of-lf (get_or text i 0) (drop (suc i) text) is)
    (ap (λ (w : List ℕ). w ∷ lines_of (drop (suc i) text)) (append-nil (take i text)))

-- a last line may have no LF
pub line_alone : (text : List ℕ) (i : ℕ) → length text ≤ i → onto_front (take i text) (lines_of (drop i text)) ≡ text ∷ []
line_alone text i all = rw (take_all i text all, drop_all i text all) refl
