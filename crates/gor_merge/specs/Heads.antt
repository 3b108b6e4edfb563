-- The next points of some lists, and which of them comes first.
use Rattle.std.specs.Prelude.{◌≡◌, ◌<◌, ◌≤◌, ◌+◌, ◌⊎◌, ℕ, List, [], ◌∷◌, Option, Some, None, ⊤, length, drop, slice_index_or}
use Rattle.gor_model.specs.Lists.{EachBefore}
use Rattle.gor_model.specs.declared.point.Point.{Point}
use Rattle.gor_model.specs.declared.point.Merged.{Merged}

-- each point is later than those before it
abbrev pub TimesRise : List Point → Type 0
TimesRise points = EachBefore (λ p q. p.time < q.time) points

-- the list at a place
abbrev pub points_at : List (List Point) → ℕ → List Point
points_at lists place = slice_index_or lists place []

-- the next point of a list, with the list's place; none at its end
abbrev pub head_of : ℕ → List Point → Option Merged
head_of place [] = None
head_of place (p ∷ points) = Some (record { place = place; point = p })

-- the next point of each list, by place
abbrev pub heads_from : ℕ → List (List Point) → List (Option Merged)
heads_from place [] = []
heads_from place (points ∷ lists) = head_of place points ∷ heads_from (place + 1) lists

-- what is left of each list behind so many of its points
abbrev pub left : List ℕ → List (List Point) → List (List Point)
left [] lists = []
left (n ∷ taken) [] = []
left (n ∷ taken) (points ∷ lists) = drop n points ∷ left taken lists

-- a head does not come after another one; a list at its end comes after each point
abbrev pub NotAfter : Option Merged → Option Merged → Type 0
NotAfter p None = ⊤
NotAfter None (Some q) = ⊥
NotAfter (Some p) (Some q) = (p.point.time < q.point.time) ⊎ ((p.point.time ≡ q.point.time) × (p.place ≤ q.place))

-- one of two heads, that comes after neither
pub record IsEarlierOf (p q first : Option Merged) : Type 0 where
  pub one : (first ≡ p) ⊎ (first ≡ q)
  pub left : NotAfter first p
  pub right : NotAfter first q

-- the head at a place
abbrev pub head_in : List (Option Merged) → ℕ → Option Merged
head_in heads place = slice_index_or heads place None

-- one of some heads, or none, that comes after none of them
pub record Wins (heads : List (Option Merged)) (winner : Option Merged) : Type 0 where
  pub one : (winner ≡ None) ⊎ ((place : ℕ) × (place < length heads) × (head_in heads place ≡ winner))
  pub first : (place : ℕ) → place < length heads → NotAfter winner (head_in heads place)
