-- The lines that are taken yet: those of a store in all lanes, and `join`.
use Rattle.std.specs.Prelude.{◌≡◌, ℕ, List, length, sum_by, Bool, true}
use Rattle.std.specs.List.{AllByRecursion}
use Rattle.gor_text.specs.declared.workload.Line.{Line}
use Rattle.gor_text.specs.declared.workload.Item.{Item}
use Rattle.gor_text.specs.declared.workload.Item.TheVariants.{Skipped, Joined, OnLane}
use Rattle.gor_store.specs.Lines.{is_taken}
use Rattle.gor_store.specs.Lanes.{AreTaken}
use Rattle.gor_store.specs.Stores.{lines_of_lanes}

abbrev pub is_taken_item : Item → Bool
is_taken_item Skipped = true
is_taken_item Joined = true
is_taken_item (OnLane lane line) = is_taken line

-- a phase has eight lanes, and all their lines are taken
pub record IsTakenPhase (lanes : List (List Line)) : Type 0 where
  pub eight : length lanes ≡ 8
  pub taken : AllByRecursion AreTaken lanes

abbrev pub AreTakenPhases : List (List (List Line)) → Type 0
AreTakenPhases phases = AllByRecursion IsTakenPhase phases

-- how many lines some phases have
abbrev pub lines_of_phases : List (List (List Line)) → ℕ
lines_of_phases phases = sum_by lines_of_lanes phases
