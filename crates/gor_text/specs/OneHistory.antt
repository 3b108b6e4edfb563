-- A text and the workload that it answers have one history of each shard.
use Rattle.std.specs.Prelude.{◌⊎◌, ℕ, ◌^◌, ◌<◌, ◌≤◌, List, length, ⊤}
use Rattle.std.specs.List.{AllByRecursion}
use Rattle.gor_model.specs.declared.start.Start.{Start}
use Rattle.gor_model.specs.Names.{IsName}
use Rattle.gor_model.specs.Changes.{History}
use Rattle.gor_model.specs.Starts.{IsStart}
use Rattle.gor_text.specs.declared.workload.Line.{Line}
use Rattle.gor_text.specs.declared.workload.Line.TheVariants.{Finish}
use Rattle.gor_text.specs.LineAnswers.{LineAnswers}
use Rattle.gor_text.specs.Transcripts.{Transcript}
use Rattle.gor_text.specs.OneText.{IsSameHistory}

-- the series that a shard starts with are spelled by names, in which no line ends
abbrev pub HasNames : Start → Type 0
HasNames start = AllByRecursion (λ r. IsName r.1.name) start.rows

-- no line finishes a window
abbrev pub FinishesNothing : Line → Type 0
FinishesNothing (Finish shard window) = ⊥
FinishesNothing line = ⊤

-- Seals print names: either each shard starts with names, or nothing is sealed.
abbrev pub PrintsNames : ℕ → (ℕ → Start) → List (List (List Line)) → Type 0
PrintsNames shards starts phases = ((shard : ℕ) → shard < shards → HasNames (starts shard)) ⊎ AllByRecursion (AllByRecursion (AllByRecursion FinishesNothing)) phases

-- lanes have numbers of 64 bits
abbrev pub HasFewLanes : List (List (List Line)) → Type 0
HasFewLanes phases = AllByRecursion (λ lanes. length lanes ≤ 2 ^ 64) phases

-- events have numbers of 64 bits
abbrev pub HaveFewEvents : ℕ → (ℕ → History) → Type 0
HaveFewEvents shards histories = (shard : ℕ) → shard < shards → length (histories shard) ≤ 2 ^ 64

-- Two transcripts with one text, of one workload and from the same starts, however their lanes took turns: the histories of each
-- shard are the same, but for the moments of their Dones. No line shows such a moment, nor which call it answers, nor a slot, nor
-- whether a stored put is due; all but the moments follow from the workload and what is printed.
abbrev pub OneHistory : Type 0
OneHistory = (shards : ℕ) (starts : ℕ → Start) (phases : List (List (List Line))) (text : List ℕ)
    → 0 < shards → shards ≤ 2 ^ 64 → HasFewLanes phases → ((shard : ℕ) → shard < shards → IsStart (starts shard)) → PrintsNames shards starts phases
    → (t u : Transcript (LineAnswers shards) shards starts phases text) → HaveFewEvents shards t.histories
    → (shard : ℕ) → shard < shards → IsSameHistory (t.histories shard) (u.histories shard)
