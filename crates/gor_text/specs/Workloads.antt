-- The text of a workload.
use Rattle.std.specs.Prelude.{◌≡◌, ℕ, ◌+◌, ◌<◌, zero, suc, List, [], ◌∷◌, ◌++◌, map, replicate, length, Option, Some, None, Bool, true, false, IsTrue, IsFalse, ⊤}
use Rattle.std.specs.List.{list_all}
use Rattle.gor_text.specs.declared.workload.Line.{Line}
use Rattle.gor_text.specs.declared.workload.Item.{Item}
use Rattle.gor_text.specs.declared.workload.Item.TheVariants.{Skipped, Joined, OnLane}
use Rattle.gor_text.specs.declared.workload.Phase.{Phase}
use Rattle.gor_text.specs.declared.workload.Workload.{Workload}
use Rattle.gor_text.specs.Grammar.{lines_of, item_of}

-- the lines of each of the eight lanes, up to each `join` and to the end
abbrev pub empty_lanes : List (List Line)
empty_lanes = replicate 8 []

abbrev pub onto_lane : ℕ → Line → List (List Line) → List (List Line)
onto_lane lane line [] = []
onto_lane zero line (lines ∷ lanes) = (line ∷ lines) ∷ lanes
onto_lane (suc lane) line (lines ∷ lanes) = lines ∷ onto_lane lane line lanes

-- a line behind those of a lane
abbrev pub behind_lane : ℕ → Line → List (List Line) → List (List Line)
behind_lane lane line [] = []
behind_lane zero line (lines ∷ lanes) = (lines ++ line ∷ []) ∷ lanes
behind_lane (suc lane) line (lines ∷ lanes) = lines ∷ behind_lane lane line lanes

abbrev pub onto_phase : ℕ → Line → List (List (List Line)) → List (List (List Line))
onto_phase lane line [] = []
onto_phase lane line (lanes ∷ phases) = onto_lane lane line lanes ∷ phases

abbrev pub phases_of : List Item → List (List (List Line))
phases_of [] = empty_lanes ∷ []
phases_of (Skipped ∷ items) = phases_of items
phases_of (Joined ∷ items) = empty_lanes ∷ phases_of items
phases_of (OnLane lane line ∷ items) = onto_phase lane line (phases_of items)

-- the phases that ended and the one that goes on, after an item
abbrev pub ended_after : Item → List (List (List Line)) → List (List Line) → List (List (List Line))
ended_after Joined ended current = ended ++ current ∷ []
ended_after item ended current = ended

abbrev pub current_after : Item → List (List Line) → List (List Line)
current_after Skipped current = current
current_after Joined current = empty_lanes
current_after (OnLane lane line) current = behind_lane lane line current

-- the lane of a line is one of the eight
abbrev pub HasLane : Item → Type 0
HasLane (OnLane lane line) = lane < 8
HasLane item = ⊤

-- a line that says something, and something that is accepted
abbrev pub is_good_item : (Item → Bool) → Option Item → Bool
is_good_item accepts None = false
is_good_item accepts (Some item) = accepts item

abbrev pub is_good_line : (Item → Bool) → List ℕ → Bool
is_good_line accepts text = is_good_item accepts (item_of text)

-- each line of the text says its item, all are accepted, and these are the phases
pub record IsWorkloadText (accepts : Item → Bool) (text : List ℕ) (phases : List (List (List Line))) : Type 0 where
  pub items : List Item
  pub said : map item_of (lines_of text) ≡ map (λ item. Some item) items
  pub accepted : IsTrue (list_all accepts items)
  pub phased : phases ≡ phases_of items

-- line n, from 1, is the first that is bad
pub record IsFirstBad (accepts : Item → Bool) (text : List ℕ) (n : ℕ) : Type 0 where
  pub before : List (List ℕ)
  pub bad : List ℕ
  pub behind : List (List ℕ)
  pub lines : lines_of text ≡ before ++ bad ∷ behind
  pub good_before : IsTrue (list_all (is_good_line accepts) before)
  pub bad_here : IsFalse (is_good_line accepts bad)
  pub counted : n ≡ length before + 1

abbrev pub every_line : Item → Bool
every_line item = true

-- the lines of a workload, by phase and lane
abbrev pub phase_lines : Phase → List (List Line)
phase_lines phase = map (λ lane. lane.items) phase.lanes.items

abbrev pub lines_in : Workload → List (List (List Line))
lines_in workload = map phase_lines workload.phases.items
