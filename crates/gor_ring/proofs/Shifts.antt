-- Shifts of places, one at a time.
use Rattle.std.proofs.Common.{◌≡◌, ℕ, List, length, Option}
use Rattle.gor_ring.specs.Places.{shifted}

-- after so many steps
pub record Shifted {T : Type 0} (count : ℕ) (old now : List (Option T)) : Type 0 where
  pub items : now ≡ shifted count old
  pub twelve : length now ≡ length old
