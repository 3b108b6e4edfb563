-- Worked texts, by computation.
use Rattle.std.proofs.Common.{◌≡◌, [], ◌∷◌, ◌++◌, false, refl}
use Rattle.std.specs.Prelude.{codes}
use Rattle.std.specs.Fmt.{digits}
use Rattle.gor_model.specs.declared.event.Call.TheVariants as call
use Rattle.gor_model.specs.declared.event.Reply.TheVariants as reply
use Rattle.gor_text.specs.declared.answer.Reason.TheVariants as reason
use Rattle.gor_text.specs.declared.workload.Line.TheVariants as line
use Rattle.gor_text.specs.Spelling.{word_text, refusal_line, merged_line}
use Rattle.gor_text.specs.LineAnswers.{Made}
use Rattle.gor_text.specs.Transcripts.{text_of}
use Rattle.gor_text.specs.Grammar.{lines_of}

row_2 : text_of (((
    record { line = line.Put (codes "a") 1427162462 0x4028000000000000; acts = Made 0 0 (call.Put (codes "a") (codes "a") 1427162462 0x4028000000000000) (reply.Stored false) ∷ [] }
    ∷ record { line = line.Get (codes "a") 0 4294965599; acts = Made 0 1 (call.Get (codes "a") 0 4294965599) (reply.Points (record { time = 1427162462; word = 0x4028000000000000 } ∷ [])) ∷ [] } ∷ [])
    ∷ [] ∷ []) ∷ [])
    ≡ codes "0 0:0 stored" ++ 10 ∷ codes "0 0:1 points 1 1427162462:4028000000000000" ++ 10 ∷ []
unfolding word_text digits
row_2 = refl

refused : refusal_line 0 reason.Window ≡ codes "0 - window" ++ 10 ∷ []
unfolding digits
refused = refl

merged : merged_line 0 (record { place = 0; point = record { time = 10; word = 2 } } ∷ record { place = 1; point = record { time = 10; word = 1 } } ∷ [])
    ≡ codes "0 = 2 0:10:0000000000000002 1:10:0000000000000001" ++ 10 ∷ []
unfolding word_text digits
merged = refl

last_line : lines_of (codes "ab" ++ 10 ∷ 10 ∷ codes "c") ≡ codes "ab" ∷ [] ∷ codes "c" ∷ []
last_line = refl
