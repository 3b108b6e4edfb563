-- What a lane did in a phase: its lines in order, after all events before the phase.
use Rattle.std.specs.Prelude.{◌≡◌, ℕ, ◌+◌, List, [], ◌∷◌, ◌++◌, map, flat_map, reverse, true}
use Rattle.std.specs.List.{AllByRecursion}
use Rattle.gor_hall.specs.declared.pass.Pass.{Pass}
use Rattle.gor_hall.specs.Passes.{lane_of}
use Rattle.gor_finish.specs.Made.{Numbered}
use Rattle.gor_text.specs.LineAnswers.{LineAnswers}
use Rattle.gor_text.specs.ActAnswers.{lane_answers}
use Rattle.gor_text.specs.Transcripts.{Served, printed_line}
use Rattle.gor_text.specs.declared.answer.LaneAnswer.{LaneAnswer}
use Rattle.gor_text.specs.declared.workload.Line.{Line}
use Rattle.gor_store.specs.Stories.{LaneRun, IsRun, AllFrom, printed_of}
use Rattle.gor_store.specs.Lines.{HasRun, need, is_taken}
use Rattle.gor_store.specs.LineParts.{ArePart}

-- each of the lines is one that is taken
abbrev pub AreTaken : List Line → Type 0
AreTaken lines = AllByRecursion (λ line. is_taken line ≡ true) lines

-- how many events some lines may have to have left before them
abbrev pub needs : List Line → ℕ
needs [] = 0
needs (line ∷ lines) = need line + needs lines

-- the lines with the acts that answered them
abbrev pub AreServed : List Line → List Served → Type 0
AreServed lines served = (map (λ s. s.line) served ≡ lines) × AllByRecursion (λ s. LineAnswers 1 s.line s.acts) served

-- these lines were answered one after the other, and all was told behind the answers before them; the events stand the newest first
pub record ServesAll (lines : List Line) (old new : Pass) (before after : List LaneAnswer) : Type 0 where
  pub served : List Served
  pub told : List LaneAnswer
  pub events : List Numbered
  pub are : AreServed lines served
  pub after_is : after ≡ before ++ told
  pub tells : told ≡ lane_answers (lane_of old) served
  pub prints : (phase : ℕ) → flat_map (printed_line 0 phase (lane_of old)) served ≡ map (printed_of phase (lane_of old)) (reverse events)
  pub own : AllByRecursion (λ e. e.1.lane ≡ lane_of old) events
  pub run : HasRun old new events

-- A lane ran these lines: they are answered in order, and told by these answers; they print just the events that the lane made,
-- and each of its numbers is at least this.
pub record RunsLane (lines : List Line) (before : ℕ) (old new : Pass) (told : List LaneAnswer) : Type 0 where
  pub run : LaneRun
  pub are : AreServed lines run.served
  pub tells : told ≡ lane_answers (lane_of old) run.served
  pub is_run : IsRun 0 (lane_of old) run
  pub made : HasRun old new (reverse run.events)
  pub from : AllFrom before run.events

-- Where memory is wanting, the events that were made stand: they are just those of the first of these lines, each answered, and
-- of a first part of what may answer the next; each number is at least this. The newest stands first.
pub record MadeFrom (lines : List Line) (before : ℕ) (old new : Pass) : Type 0 where
  pub events : List Numbered
  pub run : HasRun old new events
  pub from : AllFrom before events
  pub of : ArePart (lane_of old) lines (reverse events)
