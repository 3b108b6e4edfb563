-- The answers that acts are told by, as data: each act by one answer, with every field of it.
use Rattle.std.specs.Prelude.{ℕ, ◌+◌, List, [], ◌∷◌, ◌++◌, map, flat_map}
use Rattle.gor_text.specs.declared.answer.LaneAnswer.{LaneAnswer}
use Rattle.gor_text.specs.declared.answer.What.{What}
use Rattle.gor_text.specs.declared.answer.What.TheVariants as what
use Rattle.gor_text.specs.LineAnswers.{Act, Made, Refused, MergedPoints}
use Rattle.gor_text.specs.Transcripts.{Served}

-- what an act tells
abbrev pub act_what : Act → What
act_what (Made shard number call reply) = what.Event shard number reply
act_what (Refused why) = what.Refused why
act_what (MergedPoints points) = what.Merged points

-- to a lane
abbrev pub act_answer : ℕ → Act → LaneAnswer
act_answer lane act = record { lane = lane; what = act_what act }

-- those of a lane's lines, in their order
abbrev pub lane_answers : ℕ → List Served → List LaneAnswer
lane_answers lane lines = flat_map (λ s. map (act_answer lane) s.acts) lines

-- those of a phase as they are written, the lanes rising from one on
abbrev pub phase_answers : ℕ → List (List Served) → List LaneAnswer
phase_answers lane [] = []
phase_answers lane (lines ∷ lanes) = lane_answers lane lines ++ phase_answers (lane + 1) lanes
