-- A loop over the bodies of a file.
use Rattle.std.proofs.Common.{◌≡◌, ℕ, zero, suc, ◌+◌, ◌<◌, List, [], ◌∷◌, length, get_or, Ok, sym, ap, ◌∙◌, subst, arith}
use Rattle.gor_gate.specs.declared.bodies.Body.{Body}
use Rattle.gor_gate.specs.Bodies.{listed, AreInside}
use Rattle.gor_image.specs.Grammars.{Reads, and_then}
use Rattle.gor_image.specs.Images.{read_bodies}

-- a body of a list ends within the file
pub inside_at : (bodies : List Body) (limit i : ℕ) (b : Body) → AreInside limit (listed bodies) → i < length bodies → b ≡ get_or bodies i b → b.at + 9 + length b.bytes.items < limit
inside_at [] limit i b all within is = absurd (omega arith)
inside_at (x ∷ bodies) limit zero b all within is = subst (λ (y : Body). y.at + 9 + length y.bytes.items < limit) (sym is) all.0
inside_at (x ∷ bodies) limit (suc i) b all within is = inside_at bodies limit i b all.1 (omega arith) is

module _ {S : Type 0} (read : S → ℕ → List ℕ → Reads S) where
  -- one body was read
  pub read_more : (s t : S) (bodies rest : List Body) (b : Body) (total : Reads S) → bodies ≡ b ∷ rest → read s (b.at + 9) b.bytes.items ≡ Ok t → read_bodies read s (listed bodies) ≡ total
      → read_bodies read t (listed rest) ≡ total
  read_more s t bodies rest b total is one so_far = sym (ap (λ r. and_then r (λ u. read_bodies read u (listed rest))) one) ∙ sym (ap (λ l. read_bodies read s (listed l)) is) ∙ so_far
