-- What a first part of what may answer a line has, by the line.
use Rattle.std.proofs.Common.{◌≡◌, inl, inr, ℕ, List, [], ◌∷◌, ◌++◌, flat_map, length, true, refl, ap, ◌∙◌, arith}
use Rattle.std.specs.Prelude.{⊤}
use Rattle.gor_model.specs.Names.{key_of, shard_of}
use Rattle.gor_model.specs.declared.event.Call.TheVariants as call
use Rattle.gor_model.specs.declared.event.Reply.{Reply}
use Rattle.gor_model.specs.declared.event.Reply.TheVariants as reply
use Rattle.gor_text.specs.declared.answer.Reason.{Reason}
use Rattle.gor_text.specs.declared.answer.Reason.TheVariants as reason
use Rattle.gor_text.specs.declared.workload.Line.{Line}
use Rattle.gor_text.specs.declared.workload.Line.TheVariants.{Put}
use Rattle.gor_text.specs.LineAnswers.{Act, Made, Refused, FollowsPut, LineAnswers}
use Rattle.gor_text.specs.Transcripts.{printed_act}
use Rattle.gor_store.specs.LineParts.{IsRefusedLine, RefusedMakesNone, FlushFollowsDue}
use Rattle.gor_store.proofs.LineLaws.{shard_zero}
use Rattle.gor_store.proofs.StoryLists.{heads, tails}

front_empty : (acts more : List Act) → acts ++ more ≡ [] → acts ≡ []
front_empty [] more none = refl
front_empty (act ∷ acts) more none = absurd (let long = ap length none in omega arith)

-- ---- a line that is refused

-- it has one answer
refused_all : (line : Line) (all : List Act) → LineAnswers 1 line all → IsRefusedLine line → (why : Reason) × (all ≡ Refused why ∷ [])
refused_all _ _ (LineAnswers.put_name name time word unnamed) is = (reason.Name, refl)
refused_all _ _ (LineAnswers.put_time name time word named late) is = (reason.Time, refl)
refused_all _ _ (LineAnswers.put name time word number answer rest named early follows) (inl unnamed) = absurd (unnamed named)
refused_all _ _ (LineAnswers.put name time word number answer rest named early follows) (inr late) = absurd (omega (arith, early, late))
refused_all _ _ (LineAnswers.get_name name from to unnamed) is = (reason.Name, refl)
refused_all _ _ (LineAnswers.get_range name from to named turned) is = (reason.Range, refl)
refused_all _ _ (LineAnswers.get name from to number answer named ordered) (inl unnamed) = absurd (unnamed named)
refused_all _ _ (LineAnswers.get name from to number answer named ordered) (inr turned) = absurd (omega (arith, ordered, turned))
refused_all _ _ (LineAnswers.del_name name unnamed) is = (reason.Name, refl)
refused_all _ _ (LineAnswers.del name number answer named) is = absurd (is named)
refused_all _ _ (LineAnswers.flush_shard shard past) is = (reason.Shard, refl)
refused_all _ _ (LineAnswers.flush shard acts there flushes) is = absurd (omega (arith, there, is))
refused_all _ _ (LineAnswers.finish_shard shard window past) is = absurd is
refused_all _ _ (LineAnswers.finish_window shard window there late) is = absurd is
refused_all _ _ (LineAnswers.finish shard window number answer rest there early follows) is = absurd is
refused_all _ _ (LineAnswers.merge_range from to names turned) is = absurd is
refused_all _ _ (LineAnswers.merge from to names acts lists points ordered gets merged) is = absurd is

none_printed : (phase lane : ℕ) (why : Reason) (acts more : List Act) → acts ++ more ≡ Refused why ∷ [] → flat_map (printed_act 0 phase lane) acts ≡ []
none_printed phase lane why [] more is = refl
none_printed phase lane why (act ∷ acts) more is =
    ap (λ (z : Act). flat_map (printed_act 0 phase lane) (z ∷ acts)) (heads act (Refused why) (acts ++ more) [] is)
    ∙ ap (λ (z : List Act). flat_map (printed_act 0 phase lane) (Refused why ∷ z)) (front_empty acts more (tails act (Refused why) (acts ++ more) [] is))

pub refused_makes_none : RefusedMakesNone
refused_makes_none line rest acts phase lane refused (inl none) = ap (flat_map (printed_act 0 phase lane)) none
refused_makes_none line rest acts phase lane refused (inr begun) = let all = refused_all line (acts ++ begun.0) begun.1 refused in none_printed phase lane all.0 acts begun.0 all.1

-- ---- a put

-- where acts follow it, it was stored and due
abbrev IsDue : Line → List Act → Type 0
IsDue (Put name time word) (act ∷ more) = ¬ (more ≡ []) → (number : ℕ) × (act ≡ Made 0 number (call.Put name (key_of name) time word) (reply.Stored true))
IsDue _ _ = ⊤

due_put : (name : List ℕ) (time word number : ℕ) (answer : Reply) (rest : List Act) → FollowsPut (shard_of name 1) answer rest
    → IsDue (Put name time word) (Made (shard_of name 1) number (call.Put name (key_of name) time word) answer ∷ rest)
due_put name time word number (reply.Stored true) rest follows some =
    (number, ap (λ (s : ℕ). Made s number (call.Put name (key_of name) time word) (reply.Stored true)) (shard_zero name))
due_put name time word number _ rest follows some = absurd (some follows)

due_all : (line : Line) (all : List Act) → LineAnswers 1 line all → IsDue line all
due_all _ _ (LineAnswers.put_name name time word unnamed) = λ some. absurd (some refl)
due_all _ _ (LineAnswers.put_time name time word named late) = λ some. absurd (some refl)
due_all _ _ (LineAnswers.put name time word number answer rest named early follows) = due_put name time word number answer rest follows
due_all _ _ (LineAnswers.get_name name from to unnamed) = tt
due_all _ _ (LineAnswers.get_range name from to named turned) = tt
due_all _ _ (LineAnswers.get name from to number answer named ordered) = tt
due_all _ _ (LineAnswers.del_name name unnamed) = tt
due_all _ _ (LineAnswers.del name number answer named) = tt
due_all _ _ (LineAnswers.flush_shard shard past) = tt
due_all _ _ (LineAnswers.flush shard acts there flushes) = tt
due_all _ _ (LineAnswers.finish_shard shard window past) = tt
due_all _ _ (LineAnswers.finish_window shard window there late) = tt
due_all _ _ (LineAnswers.finish shard window number answer rest there early follows) = tt
due_all _ _ (LineAnswers.merge_range from to names turned) = tt
due_all _ _ (LineAnswers.merge from to names acts lists points ordered gets merged) = tt

pub flush_follows_due : FlushFollowsDue
flush_follows_due name time word rest act more (inl none) some = absurd (let long = ap length none in omega arith)
flush_follows_due name time word rest act more (inr begun) some = due_all (Put name time word) (act ∷ more ++ begun.0) begun.1 (λ none. some (front_empty more begun.0 none))
