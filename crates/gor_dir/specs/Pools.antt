-- What clauses see of the free slots: in the order in which they are handed out, and how many there is room for.
use Rattle.std.specs.Prelude.{ℕ, List, Bool, not, nat_eq}

pub record FreeSlots : Type 0 where
  pub free : List ℕ
  pub capacity : ℕ

abbrev pub is_apart : ℕ → ℕ → Bool
is_apart slot free = not (nat_eq free slot)
