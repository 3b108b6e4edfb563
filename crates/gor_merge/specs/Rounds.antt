-- The nodes of a tournament: the heads are the second half, and each node of the first half holds the first of the two below.
use Rattle.std.specs.Prelude.{◌≡◌, ◌<◌, ◌≤◌, ◌+◌, ◌^◌, ℕ, List, Option, None, length, slice_index_or}
use Rattle.gor_model.specs.declared.point.Merged.{Merged}
use Rattle.gor_merge.specs.Heads.{IsEarlierOf}

abbrev pub node_at : List (Option Merged) → ℕ → Option Merged
node_at nodes i = slice_index_or nodes i None

-- a node holds the first of the two below it
abbrev pub IsPlayed : List (Option Merged) → ℕ → Type 0
IsPlayed nodes i = IsEarlierOf (node_at nodes (i + i)) (node_at nodes (i + i + 1)) (node_at nodes i)

-- two nodes for each head, and few enough to be counted
pub record HasNodes (count : ℕ) (nodes : List (Option Merged)) : Type 0 where
  pub twice : length nodes ≡ count + count
  pub few : count < 2 ^ 32

-- each node of the first half, from one on, is played
abbrev pub IsPlayedFrom : ℕ → ℕ → List (Option Merged) → Type 0
IsPlayedFrom from count nodes = (i : ℕ) → 1 ≤ i → from ≤ i → i < count → IsPlayed nodes i

-- each node of the first half is played, but maybe the one above some node
abbrev pub IsOverBut : ℕ → ℕ → List (Option Merged) → Type 0
IsOverBut node count nodes = (i : ℕ) → 1 ≤ i → i < count → (i + i ≡ node → ⊥) → (i + i + 1 ≡ node → ⊥) → IsPlayed nodes i

pub record IsOver (count : ℕ) (nodes : List (Option Merged)) : Type 0 where
  pub counted : HasNodes count nodes
  pub played : IsPlayedFrom 1 count nodes
