-- The pauses of a read.
use Rattle.std.specs.Prelude.{◌≡◌, ◌⊎◌, ℕ, ◌+◌, ◌∷◌, List, length, Option, Some, None}
use Rattle.gor_model.specs.declared.event.Event.{Event}
use Rattle.gor_model.specs.Changes.{History}
use Rattle.gor_model.specs.Objects.{Has}
use Rattle.gor_rule.specs.declared.view.View.{View}
use Rattle.gor_hall.specs.declared.pass.Pass.{Pass}
use Rattle.gor_hall.specs.Passes.{made, pauses, paused}
use Rattle.gor_hall.specs.Calls.{KeepsPauses}
use Rattle.gor_steps.specs.Points.{MakesNone}
use Rattle.gor_steps.specs.declared.reads.Read.{Read}
use Rattle.gor_steps.specs.declared.reads.Found.{Found}
use Rattle.gor_steps.specs.declared.reads.Found.TheVariants as found
use Rattle.gor_steps.specs.declared.gets.GetAnswer.{GetAnswer}
use Rattle.gor_steps.specs.declared.gets.GetAnswer.TheVariants as answer

-- the newest event that is seen is the pass's own, of the series in this slot, and has this number
pub record EndsWith (v : View) (slot n : ℕ) : Type 0 where
  pub event : Event
  pub before : History
  pub earlier : List ℕ
  pub ends : v.seen ≡ event ∷ before
  pub number : n ≡ length before
  pub mine : v.mine ≡ n ∷ earlier
  pub lane : v.lane ≡ Some event.lane
  pub of : event.slot ≡ Some slot

-- the pass paused once: its event with the number n was then the newest, and it held that event's series; `is_called n` says that the pause was called for it
pub record Pauses (is_called : ℕ → Type 0) (old new : Pass) (n : ℕ) : Type 0 where
  pub called : is_called n
  pub once : pauses new ≡ pauses old + 1
  pub slot : ℕ
  pub holds : Has (paused new).held (slot + 2)
  pub after : EndsWith (paused new) slot n

-- it paused once where the series was read, and not where it was not there
abbrev pub PausesIfRead : (ℕ → Type 0) → Pass → Pass → Option Read → Type 0
PausesIfRead is_called old new (Some read) = Pauses is_called old new read.number
PausesIfRead is_called old new None = KeepsPauses old new

abbrev pub PausesIfFound : (ℕ → Type 0) → Pass → Pass → Found → Type 0
PausesIfFound is_called old new (found.Read read) = Pauses is_called old new read.number
PausesIfFound is_called old new (found.Missed n) = KeepsPauses old new

abbrev pub PausesIfPoints : (ℕ → Type 0) → Pass → Pass → ℕ → GetAnswer → Type 0
PausesIfPoints is_called old new n (answer.Points points) = Pauses is_called old new n
PausesIfPoints is_called old new n answer.Absent = KeepsPauses old new

-- it made no event and did not pause, or it made one and paused once
abbrev pub PausesIfMade : (ℕ → Type 0) → Pass → Pass → Type 0
PausesIfMade is_called old new = (MakesNone old new × KeepsPauses old new) ⊎ ((n : ℕ) × (made new ≡ n ∷ made old) × Pauses is_called old new n)
