-- Lanes beside each other: the events that each lane's lines print, and the one history of a shard that the lanes made.
use Rattle.std.specs.Prelude.{◌≡◌, ℕ, ◌+◌, ◌<◌, nat_eq, List, [], ◌∷◌, ◌++◌, length, reverse, filter, flat_map, Bool, ⊤}
use Rattle.std.specs.List.{AllByRecursion}
use Rattle.gor_model.specs.declared.event.Event.{Event}
use Rattle.gor_model.specs.Changes.{History}
use Rattle.gor_text.specs.Transcripts.{Served, Printed, printed_line}

-- events of a phase as they stand in the text, the oldest first, numbered on
abbrev pub printed_events : ℕ → ℕ → List Event → List Printed
printed_events phase number [] = []
printed_events phase number (e ∷ later) =
    record { phase = phase; lane = e.lane; number = number; call = e.call; reply = e.reply } ∷ printed_events phase (number + 1) later

abbrev pub of_lane : ℕ → Printed → Bool
of_lane lane p = nat_eq p.lane lane

-- the lines of each lane, from one on, print just what that lane made, in the order of its numbers
abbrev pub LanesPrint : ℕ → ℕ → List Printed → ℕ → List (List Served) → Type 0
LanesPrint shard phase made lane [] = ⊤
LanesPrint shard phase made lane (lines ∷ lanes) =
    (flat_map (printed_line shard phase lane) lines ≡ filter (of_lane lane) made) × LanesPrint shard phase made (lane + 1) lanes

-- what a phase added to a shard's history is of its lanes, and their lines print it
pub record PhaseMade (shard phase : ℕ) (H news : History) (lanes : List (List Served)) : Type 0 where
  pub in_lanes : AllByRecursion (λ e. e.lane < length lanes) news
  pub printed : LanesPrint shard phase (printed_events phase (length H) (reverse news)) 0 lanes

-- phase by phase a history grows to another
abbrev pub PhasesMade : ℕ → ℕ → History → List (List (List Served)) → History → Type 0
PhasesMade shard phase H [] whole = whole ≡ H
PhasesMade shard phase H (lanes ∷ phases) whole =
    (news : History) × PhaseMade shard phase H news lanes × PhasesMade shard (phase + 1) (news ++ H) phases whole
