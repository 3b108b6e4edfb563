-- What a pass has made of the lines of its lane where memory was wanting: the events of lines that were answered, and then those
-- of a first part of what may answer one more line.
use Rattle.std.specs.Prelude.{◌≡◌, ◌⊎◌, ℕ, ◌<◌, ◌≤◌, true, List, [], ◌∷◌, ◌++◌, map, flat_map, reverse}
use Rattle.std.specs.List.{AllByRecursion}
use Rattle.gor_model.specs.Names.{IsName, key_of}
use Rattle.gor_model.specs.Windows.{greatest_time}
use Rattle.gor_model.specs.declared.event.Call.TheVariants as call
use Rattle.gor_model.specs.declared.event.Reply.TheVariants as reply
use Rattle.gor_hall.specs.declared.pass.Pass.{Pass}
use Rattle.gor_hall.specs.Passes.{lane_of}
use Rattle.gor_finish.specs.Made.{Numbered}
use Rattle.gor_text.specs.LineAnswers.{Act, Made, LineAnswers, Flushes}
use Rattle.gor_text.specs.Transcripts.{Served, printed_act, printed_line}
use Rattle.gor_text.specs.declared.workload.Line.{Line}
use Rattle.gor_text.specs.declared.workload.Line.TheVariants.{Put, Get, Del, Flush}
use Rattle.gor_store.specs.Stories.{printed_of}
use Rattle.gor_store.specs.Lines.{HasRun, Prints}

-- no acts, or the first of those that may answer the first of these lines
abbrev pub AreBegun : List Line → List Act → Type 0
AreBegun [] acts = acts ≡ []
AreBegun (line ∷ rest) acts = (acts ≡ []) ⊎ ((more : List Act) × LineAnswers 1 line (acts ++ more))

-- These events of a lane, the oldest first, are just those that its first lines print, each by acts that answer it, and that some
-- acts of the line behind them print.
pub record ArePart (lane : ℕ) (lines : List Line) (events : List Numbered) : Type 0 where
  pub served : List Served
  pub acts : List Act
  pub rest : List Line
  pub parts : lines ≡ map (λ s. s.line) served ++ rest
  pub answered : AllByRecursion (λ s. LineAnswers 1 s.line s.acts) served
  pub begun : AreBegun rest acts
  pub prints : (phase : ℕ) → flat_map (printed_line 0 phase lane) served ++ flat_map (printed_act 0 phase lane) acts ≡ map (printed_of phase lane) events
  pub own : AllByRecursion (λ e. e.1.lane ≡ lane) events

-- the pass made just the events that these acts print, and they stand; the newest stands first
pub record HasActed (old new : Pass) (acts : List Act) : Type 0 where
  pub events : List Numbered
  pub prints : Prints (lane_of old) acts events
  pub run : HasRun old new events

-- those of a flush
abbrev pub HasFlushedOnce : Pass → Pass → Type 0
HasFlushedOnce old new = (acts : List Act) × Flushes 0 acts × HasActed old new acts

-- a line found no memory
abbrev pub HasBegun : Line → Pass → Pass → Type 0
HasBegun line old new = (acts : List Act) × AreBegun (line ∷ []) acts × HasActed old new acts

-- some line of these did; the newest event stands first
abbrev pub RanUntil : List Line → Pass → Pass → Type 0
RanUntil lines old new = (events : List Numbered) × HasRun old new events × ArePart (lane_of old) lines (reverse events)

-- ---- laws

-- the line is refused for its arguments
abbrev pub IsRefusedLine : Line → Type 0
IsRefusedLine (Put name time word) = (¬ (IsName name)) ⊎ (greatest_time < time)
IsRefusedLine (Get name from to) = (¬ (IsName name)) ⊎ (to < from)
IsRefusedLine (Del name) = ¬ (IsName name)
IsRefusedLine (Flush shard) = 1 ≤ shard
IsRefusedLine _ = ⊥

-- then it made no event
abbrev pub RefusedMakesNone : Type 0
RefusedMakesNone = (line : Line) (rest : List Line) (acts : List Act) (phase lane : ℕ) → IsRefusedLine line → AreBegun (line ∷ rest) acts → flat_map (printed_act 0 phase lane) acts ≡ []

-- where anything was made behind a put, the put was stored and due
abbrev pub FlushFollowsDue : Type 0
FlushFollowsDue = (name : List ℕ) (time word : ℕ) (rest : List Line) (act : Act) (more : List Act) → AreBegun (Put name time word ∷ rest) (act ∷ more) → ¬ (more ≡ [])
    → (number : ℕ) × (act ≡ Made 0 number (call.Put name (key_of name) time word) (reply.Stored true))
