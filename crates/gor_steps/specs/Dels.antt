-- A delete.
use Rattle.std.specs.Prelude.{ℕ, List, Option, Bool, if◌then◌else◌}
use Rattle.gor_model.specs.declared.event.Call.TheVariants as call
use Rattle.gor_model.specs.declared.event.Event.{Event}
use Rattle.gor_model.specs.declared.event.Reply.{Reply}
use Rattle.gor_model.specs.declared.event.Reply.TheVariants as reply
use Rattle.gor_steps.specs.Points.{said}
use Rattle.gor_steps.specs.declared.dels.DelAnswer.{DelAnswer}
use Rattle.gor_steps.specs.declared.dels.DelAnswer.TheVariants as answer

abbrev pub del_reply : DelAnswer → Reply
del_reply answer.Gone = reply.Gone
del_reply answer.Absent = reply.Absent
del_reply answer.Stopped = reply.Stopped

abbrev pub del_event : ℕ → Option ℕ → List ℕ → DelAnswer → Event
del_event lane slot key answer = said lane slot (call.Del key) (del_reply answer)

-- the answer where the key is absent
abbrev pub absent_answer : Bool → DelAnswer
absent_answer stopped = if stopped then answer.Stopped else answer.Absent
