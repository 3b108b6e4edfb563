-- A workload of one lane has one text.
use Rattle.std.specs.Prelude.{◌≡◌, ℕ, ◌<◌, zero, suc, List, [], ◌∷◌, map, false, ⊤}
use Rattle.std.specs.List.{AllByRecursion}
use Rattle.gor_model.specs.declared.event.Call.{Call}
use Rattle.gor_model.specs.declared.event.Call.TheVariants as call
use Rattle.gor_model.specs.declared.event.Event.{Event}
use Rattle.gor_model.specs.declared.start.Start.{Start}
use Rattle.gor_model.specs.Changes.{History}
use Rattle.gor_model.specs.Starts.{IsStart}
use Rattle.gor_model.specs.Answers.{is_stopped}
use Rattle.gor_text.specs.declared.workload.Line.{Line}
use Rattle.gor_text.specs.LineAnswers.{Act, Made, LineAnswers}
use Rattle.gor_text.specs.Transcripts.{Transcript}

-- in a phase no lane but this one has lines
abbrev pub HasOnlyLane : {X : Type 0} → ℕ → List (List X) → Type 0
HasOnlyLane lane [] = ⊤
HasOnlyLane zero (lines ∷ lanes) = AllByRecursion (λ l. l ≡ []) lanes
HasOnlyLane (suc lane) (lines ∷ lanes) = (lines ≡ []) × HasOnlyLane lane lanes

abbrev pub IsOfOneLane : {X : Type 0} → ℕ → List (List (List X)) → Type 0
IsOfOneLane lane phases = AllByRecursion (HasOnlyLane lane) phases

-- no event is a Stop
abbrev pub StopsNothing : Act → Type 0
StopsNothing (Made shard number call.Stop reply) = ⊥
StopsNothing act = ⊤

-- no shard of a transcript was stopped
abbrev pub NeverStops : ℕ → (ℕ → History) → Type 0
NeverStops shards histories = (shard : ℕ) → shard < shards → is_stopped (histories shard) ≡ false

-- an event but for the moment of a Done, on which no answer depends
abbrev pub call_at_rest : Call → Call
call_at_rest (call.Done window at) = call.Done window 0
call_at_rest c = c

abbrev pub event_at_rest : Event → Event
event_at_rest e = record e { call = call_at_rest e.call }

-- two histories are one but for the moments of their Dones
abbrev pub IsSameHistory : History → History → Type 0
IsSameHistory h k = map event_at_rest h ≡ map event_at_rest k

-- Two transcripts of one workload, in which one lane alone has lines, from the same starts: where nothing was stopped they are
-- one text, and the histories of the shards are the same.
abbrev pub OneText : Type 0
OneText = (shards : ℕ) (starts : ℕ → Start) (lane : ℕ) (phases : List (List (List Line))) (text other : List ℕ)
    → 0 < shards → ((shard : ℕ) → shard < shards → IsStart (starts shard)) → IsOfOneLane lane phases
    → (t : Transcript (LineAnswers shards) shards starts phases text) → (u : Transcript (LineAnswers shards) shards starts phases other)
    → NeverStops shards t.histories → NeverStops shards u.histories
    → (text ≡ other) × ((shard : ℕ) → shard < shards → IsSameHistory (t.histories shard) (u.histories shard))
