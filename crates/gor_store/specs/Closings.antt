-- What lane 8 makes in the last flush of a shard.
use Rattle.std.specs.Prelude.{◌≡◌, ◌⊎◌, ℕ, List, [], ◌∷◌, Option, Some, None, nat_eq, if◌then◌else◌}
use Rattle.gor_finish.specs.Flushes.{take_made, take_refused, done_made, stop_made}
use Rattle.gor_finish.specs.Made.{Numbered}

-- what lane 8 made, the oldest first: a Take and a Done, or a Take that a Stop before it refuses, or a Take and a Stop
abbrev pub ClosesBy : Option ℕ → List Numbered → Type 0
ClosesBy None events = (take done changes moment taken : ℕ) × (events ≡ (take, take_made 8 taken) ∷ (done, done_made 8 moment changes) ∷ [])
ClosesBy (Some shard) events = (shard ≡ 0)
    × (((number : ℕ) × (events ≡ (number, take_refused 8) ∷ []))
    ⊎ ((take stop taken : ℕ) × (events ≡ (take, take_made 8 taken) ∷ (stop, stop_made 8) ∷ [])))

-- so many events of lane 8 alone
abbrev pub only_last : List Numbered → ℕ → List Numbered
only_last events lane = if nat_eq lane 8 then events else []
