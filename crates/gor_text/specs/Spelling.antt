-- How answers are written.
use Rattle.std.specs.Prelude.{ℕ, ◌+◌, ◌/◌, ◌%◌, nat_lt, zero, suc, List, [], ◌∷◌, ◌++◌, length, flat_map, codes, decimal, if◌then◌else◌}
use Rattle.gor_model.specs.declared.point.Point.{Point}
use Rattle.gor_model.specs.declared.point.Merged.{Merged as MergedPoint}
use Rattle.gor_model.specs.declared.event.Reply.{Reply}
use Rattle.gor_model.specs.declared.event.Reply.TheVariants.{Stored, Late, Closed, Full, Stopped, Points, Absent, Gone, Floor, Sealed, Seal, Take, Done, Stop}
use Rattle.gor_text.specs.declared.answer.Reason.{Reason}
use Rattle.gor_text.specs.declared.answer.Reason.TheVariants as reason
use Rattle.gor_text.specs.declared.answer.What.{What}
use Rattle.gor_text.specs.declared.answer.What.TheVariants.{Event, Refused, Merged}
use Rattle.gor_text.specs.declared.answer.LaneAnswer.{LaneAnswer}

-- the lowest digits of a number in base 16, lower-case
abbrev pub hex_digit : ℕ → ℕ
hex_digit d = if nat_lt d 10 then 48 + d else 87 + d

abbrev pub hex_digits : ℕ → ℕ → List ℕ
hex_digits zero n = []
hex_digits (suc count) n = hex_digits count (n / 16) ++ hex_digit (n % 16) ∷ []

unfoldable pub word_text : ℕ → List ℕ
word_text word = hex_digits 16 word

-- ` TIME:WORD`
abbrev pub point_text : Point → List ℕ
point_text p = codes " " ++ decimal p.time ++ codes ":" ++ word_text p.word

-- ` PLACE:TIME:WORD`
abbrev pub merged_text : MergedPoint → List ℕ
merged_text m = codes " " ++ decimal m.place ++ codes ":" ++ decimal m.point.time ++ codes ":" ++ word_text m.point.word

abbrev pub reply_text : Reply → List ℕ
reply_text (Stored due) = codes "stored"
reply_text (Late last) = codes "late " ++ decimal last
reply_text (Closed floor) = codes "closed " ++ decimal floor
reply_text (Full slots) = codes "full " ++ decimal slots
reply_text Stopped = codes "stopped"
reply_text (Points points) = codes "points " ++ decimal (length points) ++ flat_map point_text points
reply_text Absent = codes "absent"
reply_text Gone = codes "gone"
reply_text (Floor floor) = codes "floor " ++ decimal floor
reply_text (Sealed floor) = codes "sealed " ++ decimal floor
reply_text (Seal name) = codes "seal " ++ name
reply_text (Take count) = codes "take " ++ decimal count
reply_text (Done count) = codes "done " ++ decimal count
reply_text Stop = codes "stop"

abbrev pub reason_text : Reason → List ℕ
reason_text reason.Name = codes "name"
reason_text reason.Time = codes "time"
reason_text reason.Range = codes "range"
reason_text reason.Shard = codes "shard"
reason_text reason.Window = codes "window"

-- the line of an event, of a refusal and of a merged list
abbrev pub event_line : ℕ → ℕ → ℕ → Reply → List ℕ
event_line lane shard number reply =
    decimal lane ++ codes " " ++ decimal shard ++ codes ":" ++ decimal number ++ codes " " ++ reply_text reply ++ 10 ∷ []

abbrev pub refusal_line : ℕ → Reason → List ℕ
refusal_line lane why = decimal lane ++ codes " - " ++ reason_text why ++ 10 ∷ []

abbrev pub merged_line : ℕ → List MergedPoint → List ℕ
merged_line lane points = decimal lane ++ codes " = " ++ decimal (length points) ++ flat_map merged_text points ++ 10 ∷ []

abbrev pub what_line : ℕ → What → List ℕ
what_line lane (Event shard number reply) = event_line lane shard number reply
what_line lane (Refused why) = refusal_line lane why
what_line lane (Merged points) = merged_line lane points

abbrev pub answer_line : LaneAnswer → List ℕ
answer_line answer = what_line answer.lane answer.what
