-- The text of the answers that acts are told by is the text of the acts.
use Rattle.std.proofs.Common.{◌≡◌, ℕ, ◌+◌, List, [], ◌∷◌, ◌++◌, map, flat_map, refl, sym, ap, ◌∙◌}
use Rattle.std.proofs.lemmas.Grind.{flat_map-append}
use Rattle.std.proofs.lemmas.List.Concat.{flat_map-cons}
use Rattle.gor_text.specs.LineAnswers.{Act, Made, Refused, MergedPoints}
use Rattle.gor_text.specs.Spelling.{answer_line}
use Rattle.gor_text.specs.Transcripts.{Served, act_text, lane_text, phase_text_from}
use Rattle.gor_text.specs.ActAnswers.{act_answer, lane_answers, phase_answers}

-- of one act
pub act_told : (lane : ℕ) (act : Act) → answer_line (act_answer lane act) ≡ act_text lane act
act_told lane (Made shard number call reply) = refl
act_told lane (Refused why) = refl
act_told lane (MergedPoints points) = refl

-- of some acts
pub acts_told : (lane : ℕ) (acts : List Act) → flat_map answer_line (map (act_answer lane) acts) ≡ flat_map (act_text lane) acts
acts_told lane [] = refl
acts_told lane (act ∷ acts) =
    flat_map-cons answer_line (act_answer lane act) (map (act_answer lane) acts)
    ∙ (ap (λ (text : List ℕ). text ++ flat_map answer_line (map (act_answer lane) acts)) (act_told lane act)
    ∙ (ap (λ (text : List ℕ). act_text lane act ++ text) (acts_told lane acts)
    ∙ sym (flat_map-cons (act_text lane) act acts)))

-- of the lines of a lane
pub lane_told : (lane : ℕ) (lines : List Served) → flat_map answer_line (lane_answers lane lines) ≡ lane_text lane lines
lane_told lane [] = refl
lane_told lane (s ∷ lines) =
    ap (flat_map answer_line) (flat_map-cons (λ (t : Served). map (act_answer lane) t.acts) s lines)
    ∙ (flat_map-append answer_line (map (act_answer lane) s.acts) (lane_answers lane lines)
    ∙ (ap (λ (text : List ℕ). text ++ flat_map answer_line (lane_answers lane lines)) (acts_told lane s.acts)
    ∙ (ap (λ (text : List ℕ). flat_map (act_text lane) s.acts ++ text) (lane_told lane lines)
    ∙ sym (flat_map-cons (λ (t : Served). flat_map (act_text lane) t.acts) s lines))))

-- of the lanes of a phase
pub phase_told : (lane : ℕ) (lanes : List (List Served)) → flat_map answer_line (phase_answers lane lanes) ≡ phase_text_from lane lanes
phase_told lane [] = refl
phase_told lane (lines ∷ lanes) =
    flat_map-append answer_line (lane_answers lane lines) (phase_answers (lane + 1) lanes)
    ∙ (ap (λ (text : List ℕ). text ++ flat_map answer_line (phase_answers (lane + 1) lanes)) (lane_told lane lines)
    ∙ ap (λ (text : List ℕ). lane_text lane lines ++ text) (phase_told (lane + 1) lanes))
