-- What an input that is taken says: phases of eight lanes whose lines are taken, and no more lines than the input has bytes.
use Rattle.std.proofs.Common.{◌≡◌, ℕ, zero, suc, ◌+◌, ◌≤◌, List, [], ◌∷◌, length, Some, Bool, true, false, cond, refl, sym, ap, subst, ◌∙◌, arith}
use Rattle.std.specs.Prelude.{nat_eq, replicate}
use Rattle.std.specs.List.{AllByRecursion, list_all}
use Rattle.std.proofs.lemmas.Bool.{and_parts}
use Rattle.std.proofs.lemmas.List.{length-map}
use Rattle.std.proofs.lemmas.List.Sums.{sum_by-cons}
use Rattle.gor_text.specs.declared.workload.Line.{Line}
use Rattle.gor_text.specs.declared.workload.Item.{Item}
use Rattle.gor_text.specs.declared.workload.Item.TheVariants.{Skipped, Joined, OnLane}
use Rattle.gor_text.specs.Grammar.{lines_of, onto_first, item_of}
use Rattle.gor_text.specs.Workloads.{empty_lanes, phases_of, onto_phase, onto_lane, IsWorkloadText}
use Rattle.gor_store.specs.Lines.{is_taken}
use Rattle.gor_store.specs.Lanes.{AreTaken}
use Rattle.gor_store.specs.Stores.{lines_of_lanes}
use Rattle.gor_run.specs.TakenLines.{is_taken_item, IsTakenPhase, AreTakenPhases, lines_of_phases}

onto_lane-length : (lane : ℕ) (line : Line) (lanes : List (List Line)) → length (onto_lane lane line lanes) ≡ length lanes
onto_lane-length lane line [] = refl
onto_lane-length zero line (lines ∷ lanes) = refl
onto_lane-length (suc lane) line (lines ∷ lanes) = ap suc (onto_lane-length lane line lanes)

onto_lane-taken : (lane : ℕ) (line : Line) (lanes : List (List Line)) → is_taken line ≡ true → AllByRecursion AreTaken lanes → AllByRecursion AreTaken (onto_lane lane line lanes)
onto_lane-taken lane line [] is all = tt
onto_lane-taken zero line (lines ∷ lanes) is all = ((is, all.0), all.1)
onto_lane-taken (suc lane) line (lines ∷ lanes) is all = (all.0, onto_lane-taken lane line lanes is all.1)

onto_phase-taken : (lane : ℕ) (line : Line) (phases : List (List (List Line))) → is_taken line ≡ true → AreTakenPhases phases → AreTakenPhases (onto_phase lane line phases)
onto_phase-taken lane line [] is all = tt
onto_phase-taken lane line (lanes ∷ phases) is all =
    (record { eight = onto_lane-length lane line lanes ∙ all.0.eight; taken = onto_lane-taken lane line lanes is all.0.taken }, all.1)

none_taken : (n : ℕ) → AllByRecursion AreTaken (replicate n [])
none_taken zero = tt
none_taken (suc n) = (tt, none_taken n)

empty_taken : IsTakenPhase empty_lanes
empty_taken = record { eight = refl; taken = none_taken 8 }

phases_taken : (items : List Item) → list_all is_taken_item items ≡ true → AreTakenPhases (phases_of items)
phases_taken [] all = (empty_taken, tt)
phases_taken (Skipped ∷ items) all = phases_taken items all
phases_taken (Joined ∷ items) all = (empty_taken, phases_taken items all)
phases_taken (OnLane lane line ∷ items) all =
    let parts = and_parts (is_taken line) (list_all is_taken_item items) all in
    onto_phase-taken lane line (phases_of items) parts.0 (phases_taken items parts.1)

pub text_taken : (input : List ℕ) (phases : List (List (List Line))) → IsWorkloadText is_taken_item input phases → AreTakenPhases phases
text_taken input phases text = subst AreTakenPhases (sym text.phased) (phases_taken text.items text.accepted)

-- ---- a text has no more lines than bytes, and one

onto_lane-count : (lane : ℕ) (line : Line) (lanes : List (List Line)) → lines_of_lanes (onto_lane lane line lanes) ≤ lines_of_lanes lanes + 1
onto_lane-count lane line [] = omega arith
onto_lane-count zero line (lines ∷ lanes) =
    let s = sum_by-cons length (line ∷ lines) lanes in let t = sum_by-cons length lines lanes in omega arith
onto_lane-count (suc lane) line (lines ∷ lanes) =
    let s = sum_by-cons length lines (onto_lane lane line lanes) in let t = sum_by-cons length lines lanes in omega (arith, onto_lane-count lane line lanes)

onto_phase-count : (lane : ℕ) (line : Line) (phases : List (List (List Line))) → lines_of_phases (onto_phase lane line phases) ≤ lines_of_phases phases + 1
onto_phase-count lane line [] = omega arith
onto_phase-count lane line (lanes ∷ phases) =
    let s = sum_by-cons lines_of_lanes (onto_lane lane line lanes) phases in let t = sum_by-cons lines_of_lanes lanes phases in omega (arith, onto_lane-count lane line lanes)

empty_count : (phases : List (List (List Line))) → lines_of_phases (empty_lanes ∷ phases) ≡ lines_of_phases phases
empty_count phases = let s = sum_by-cons lines_of_lanes empty_lanes phases in let none : lines_of_lanes empty_lanes ≡ 0 = refl in omega (arith, s, none)

phases_few : (items : List Item) → lines_of_phases (phases_of items) ≤ length items
phases_few [] = omega (arith, empty_count [])
phases_few (Skipped ∷ items) = omega (arith, phases_few items)
phases_few (Joined ∷ items) = omega (arith, phases_few items, empty_count (phases_of items))
phases_few (OnLane lane line ∷ items) = omega (arith, onto_phase-count lane line (phases_of items), phases_few items)

grown_by_one : (byte : ℕ) (parts : List (List ℕ)) → length (onto_first byte parts) ≤ suc (length parts)
grown_by_one byte [] = omega arith
grown_by_one byte (part ∷ parts) = omega arith

few_lines : (text : List ℕ) → length (lines_of text) ≤ length text
few_lines [] = omega arith
few_lines (byte ∷ text) = at (nat_eq byte 10) (few_lines text) where
  at : (b : Bool) → length (lines_of text) ≤ length text → length (cond b ([] ∷ lines_of text) (onto_first byte (lines_of text))) ≤ suc (length text)
  at true few = omega arith
  at false few = omega (arith, grown_by_one byte (lines_of text))

pub text_few : (input : List ℕ) (phases : List (List (List Line))) → IsWorkloadText is_taken_item input phases → lines_of_phases phases ≤ length input
text_few input phases text =
    let count : lines_of_phases phases ≡ lines_of_phases (phases_of text.items) = ap lines_of_phases text.phased in
    omega (arith, count, phases_few text.items, few_lines input, ap length text.said, length-map (lines_of input) item_of, length-map text.items (λ item. Some item))
