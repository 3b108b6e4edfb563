-- The lines of lanes and phases as they are read, one line after another.
use Rattle.std.proofs.Common.{◌≡◌, ℕ, zero, suc, ◌<◌, List, [], ◌∷◌, ◌++◌, length, refl, sym, ap, ◌∙◌, arith, get_or}
use Rattle.std.specs.Prelude.{map, slice_set, replicate}
use Rattle.gor_text.specs.declared.workload.Line.{Line}
use Rattle.gor_text.specs.declared.workload.Item.{Item}
use Rattle.gor_text.specs.declared.workload.Item.TheVariants.{Skipped, Joined, OnLane}
use Rattle.gor_text.specs.Workloads.{behind_lane, onto_lane, onto_phase, empty_lanes, phases_of, ended_after, current_after}

-- one lane got a line behind its lines
pub lane_grows : {X : Type 0} (lines : X → List Line) (xs : List X) (i : ℕ) (x d : X) (line : Line) → i < length xs → lines x ≡ lines (get_or xs i d) ++ line ∷ []
    → map lines (slice_set xs i x) ≡ behind_lane i line (map lines xs)
lane_grows lines [] i x d line below is = absurd (omega arith)
lane_grows lines (y ∷ xs) zero x d line below is = ap (λ (l : List Line). l ∷ map lines xs) is
lane_grows lines (y ∷ xs) (suc i) x d line below is = ap (λ (ls : List (List Line)). lines y ∷ ls) (lane_grows lines xs i x d line (omega arith) is)

-- ---- what one more line does to the phases

-- the last phase, changed
abbrev pub onto_last : (List (List Line) → List (List Line)) → List (List (List Line)) → List (List (List Line))
onto_last f [] = []
onto_last f (p ∷ []) = f p ∷ []
onto_last f (p ∷ q ∷ ps) = p ∷ onto_last f (q ∷ ps)

onto_last-behind : (f : List (List Line) → List (List Line)) (ended : List (List (List Line))) (current : List (List Line)) → onto_last f (ended ++ current ∷ []) ≡ ended ++ f current ∷ []
onto_last-behind f [] current = refl
onto_last-behind f (p ∷ []) current = refl
onto_last-behind f (p ∷ q ∷ ps) current = ap (λ (rest : List (List (List Line))). p ∷ rest) (onto_last-behind f (q ∷ ps) current)

empty_lane : (n lane : ℕ) (line : Line) → onto_lane lane line (replicate n []) ≡ behind_lane lane line (replicate n [])
empty_lane zero lane line = refl
empty_lane (suc n) zero line = refl
empty_lane (suc n) (suc lane) line = ap (λ (ls : List (List Line)). [] ∷ ls) (empty_lane n lane line)

front_and_behind : (lanes : List (List Line)) (i j : ℕ) (line later : Line) → onto_lane i line (behind_lane j later lanes) ≡ behind_lane j later (onto_lane i line lanes)
front_and_behind [] i j line later = refl
front_and_behind (l ∷ lanes) zero zero line later = refl
front_and_behind (l ∷ lanes) zero (suc j) line later = refl
front_and_behind (l ∷ lanes) (suc i) zero line later = refl
front_and_behind (l ∷ lanes) (suc i) (suc j) line later = ap (λ (ls : List (List Line)). l ∷ ls) (front_and_behind lanes i j line later)

-- there is always a last phase
some_phase : (items : List Item) → (p : List (List Line)) × ((ps : List (List (List Line))) × (phases_of items ≡ p ∷ ps))
some_phase [] = (empty_lanes, ([], refl))
some_phase (Skipped ∷ items) = some_phase items
some_phase (Joined ∷ items) = (empty_lanes, (phases_of items, refl))
some_phase (OnLane lane line ∷ items) = let rest = some_phase items in (onto_lane lane line rest.0, (rest.1.0, ap (onto_phase lane line) rest.1.1))

lane_commutes : (ps : List (List (List Line))) (i j : ℕ) (line later : Line) → onto_phase i line (onto_last (behind_lane j later) ps) ≡ onto_last (behind_lane j later) (onto_phase i line ps)
lane_commutes [] i j line later = refl
lane_commutes (p ∷ []) i j line later = ap (λ (l : List (List Line)). l ∷ []) (front_and_behind p i j line later)
lane_commutes (p ∷ q ∷ ps) i j line later = refl

one_more_line : (items : List Item) (lane : ℕ) (line : Line) → phases_of (items ++ OnLane lane line ∷ []) ≡ onto_last (behind_lane lane line) (phases_of items)
one_more_line [] lane line = ap (λ (l : List (List Line)). l ∷ []) (empty_lane 8 lane line)
one_more_line (Skipped ∷ items) lane line = one_more_line items lane line
one_more_line (Joined ∷ items) lane line =
    let rest = some_phase items in
    ap (λ (ps : List (List (List Line))). empty_lanes ∷ ps) (one_more_line items lane line) ∙ rw rest.1.1 refl
one_more_line (OnLane i other ∷ items) lane line = ap (onto_phase i other) (one_more_line items lane line) ∙ lane_commutes (phases_of items) i lane other line

join_commutes : (p : List (List Line)) (ps : List (List (List Line))) (all : List (List (List Line))) (i : ℕ) (line : Line) → all ≡ p ∷ ps → onto_phase i line (all ++ empty_lanes ∷ []) ≡ onto_phase i line all ++ empty_lanes ∷ []
join_commutes p ps all i line is = rw is refl

one_more_join : (items : List Item) → phases_of (items ++ Joined ∷ []) ≡ phases_of items ++ empty_lanes ∷ []
one_more_join [] = refl
one_more_join (Skipped ∷ items) = one_more_join items
one_more_join (Joined ∷ items) = ap (λ (ps : List (List (List Line))). empty_lanes ∷ ps) (one_more_join items)
one_more_join (OnLane i line ∷ items) =
    let rest = some_phase items in
    ap (onto_phase i line) (one_more_join items) ∙ join_commutes rest.0 rest.1.0 (phases_of items) i line rest.1.1

one_more_skipped : (items : List Item) → phases_of (items ++ Skipped ∷ []) ≡ phases_of items
one_more_skipped [] = refl
one_more_skipped (Skipped ∷ items) = one_more_skipped items
one_more_skipped (Joined ∷ items) = ap (λ (ps : List (List (List Line))). empty_lanes ∷ ps) (one_more_skipped items)
one_more_skipped (OnLane i line ∷ items) = ap (onto_phase i line) (one_more_skipped items)

pub one_more : (items : List Item) (item : Item) (ended : List (List (List Line))) (current : List (List Line)) → ended ++ current ∷ [] ≡ phases_of items
    → ended_after item ended current ++ current_after item current ∷ [] ≡ phases_of (items ++ item ∷ [])
one_more items Skipped ended current is = is ∙ sym (one_more_skipped items)
one_more items Joined ended current is = ap (λ (ps : List (List (List Line))). ps ++ empty_lanes ∷ []) is ∙ sym (one_more_join items)
one_more items (OnLane lane line) ended current is =
    sym (onto_last-behind (behind_lane lane line) ended current) ∙ (ap (onto_last (behind_lane lane line)) is ∙ sym (one_more_line items lane line))

pub behind_lane-length : (lanes : List (List Line)) (lane : ℕ) (line : Line) → length (behind_lane lane line lanes) ≡ length lanes
behind_lane-length [] lane line = refl
behind_lane-length (l ∷ lanes) zero line = refl
behind_lane-length (l ∷ lanes) (suc lane) line = ap suc (behind_lane-length lanes lane line)
