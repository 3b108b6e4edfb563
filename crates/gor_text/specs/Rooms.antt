-- How many bytes a line takes at most.
use Rattle.std.specs.Prelude.{ℕ, ◌+◌, ◌*◌, length}
use Rattle.gor_model.specs.declared.event.Reply.{Reply}
use Rattle.gor_model.specs.declared.event.Reply.TheVariants.{Stored, Late, Closed, Full, Stopped, Points, Absent, Gone, Floor, Sealed, Seal, Take, Done, Stop}
use Rattle.gor_text.specs.declared.answer.What.{What}
use Rattle.gor_text.specs.declared.answer.What.TheVariants.{Event, Refused, Merged}

-- a reply with its LF: a word of at most 7 bytes, a number of at most 20, and 38 a point
abbrev pub reply_room : Reply → ℕ
reply_room (Stored due) = 28
reply_room (Late last) = 28
reply_room (Closed floor) = 28
reply_room (Full slots) = 28
reply_room Stopped = 28
reply_room (Points points) = 28 + length points * 38
reply_room Absent = 28
reply_room Gone = 28
reply_room (Floor floor) = 28
reply_room (Sealed floor) = 28
reply_room (Seal name) = 6 + length name
reply_room (Take count) = 28
reply_room (Done count) = 28
reply_room Stop = 28

-- a line: three numbers and what stands between them before a reply, or 59 a point of a merge
abbrev pub what_room : What → ℕ
what_room (Event shard number reply) = 63 + reply_room reply
what_room (Refused why) = 30
what_room (Merged points) = 44 + length points * 59
