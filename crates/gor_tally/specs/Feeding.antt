-- How far some tallies are fed.
use Rattle.std.specs.Prelude.{ℕ, zero, suc, ◌≡◌, ◌+◌, ◌*◌, List, [], ◌∷◌, ◌++◌, map, take, drop}
use Rattle.gor_model.specs.declared.point.Point.{Point}
use Rattle.gor_tally.specs.Tallies.{Meaning, stepped}

-- so many first tallies took these points, and the others did not
abbrev pub given_to : ℕ → List Point → List Meaning → List Meaning
given_to zero points tallies = tallies
given_to (suc more) points [] = []
given_to (suc more) points (tally ∷ tallies) = stepped points tally ∷ given_to more points tallies

-- some first tallies took these points, and the others did not
abbrev pub IsGivenInPart : List Point → List Meaning → List Meaning → Type 0
IsGivenInPart points before after = (more : ℕ) × (after ≡ given_to more points before)

-- each tally took so many first pages of the points, and some first tallies took one page more
pub record IsFedInPart (page : ℕ) (points : List Point) (before after : List Meaning) : Type 0 where
  pub pages : ℕ
  pub more : ℕ
  pub fed : after ≡ map (stepped (take (pages * page + page) points)) (take more before) ++ map (stepped (take (pages * page) points)) (drop more before)
