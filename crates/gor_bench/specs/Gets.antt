-- Gets of a series that is there.
use Rattle.std.specs.Prelude.{ℕ, List, filter, Some}
use Rattle.gor_model.specs.declared.event.Event.{Event}
use Rattle.gor_model.specs.declared.event.Call.TheVariants as call
use Rattle.gor_model.specs.declared.event.Reply.TheVariants as reply
use Rattle.gor_model.specs.declared.start.Row.{Row}
use Rattle.gor_model.specs.Answers.{in_range}

-- a get of a key, answered by the row of its series
abbrev pub got : ℕ → ℕ → List ℕ → ℕ → ℕ → Row → Event
got lane slot key from to row = record { lane = lane; slot = Some slot; call = call.Get key from to; reply = reply.Points (filter (in_range from to) row.points) }
