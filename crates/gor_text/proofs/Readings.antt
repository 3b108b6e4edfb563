-- A workload that is read line by line.
use Rattle.std.proofs.Common.{◌≡◌, ℕ, ◌+◌, List, [], ◌∷◌, ◌++◌, length, Option, Some, Bool, true, false, refl, sym, ap, ◌∙◌, arith, append_assoc, append-nil, length-append}
use Rattle.std.specs.Prelude.{map}
use Rattle.std.specs.List.{list_all}
use Rattle.std.proofs.lemmas.List.{map-append}
use Rattle.std.proofs.lemmas.List.Folds.{list_all-append}
use Rattle.gor_text.specs.declared.workload.Line.{Line}
use Rattle.gor_text.specs.declared.workload.Item.{Item}
use Rattle.gor_text.specs.Grammar.{lines_of, item_of}
use Rattle.gor_text.specs.Workloads.{empty_lanes, phases_of, ended_after, current_after, is_good_line, IsWorkloadText, IsFirstBad}
use Rattle.gor_text.specs.declared.workload.Item.TheVariants.{Skipped, Joined, OnLane}
use Rattle.gor_text.proofs.Lanes.{one_more, behind_lane-length}

-- so many lines were read, and the text holds the others
pub record ReadSoFar (accepts : Item → Bool) (all text : List ℕ) (ended : List (List (List Line))) (current : List (List Line)) (count : ℕ) : Type 0 where
  pub before : List (List ℕ)
  pub items : List Item
  pub lines : before ++ lines_of text ≡ lines_of all
  pub said : map item_of before ≡ map (λ item. Some item) items
  pub accepted : list_all accepts items ≡ true
  pub good : list_all (is_good_line accepts) before ≡ true
  pub phased : ended ++ current ∷ [] ≡ phases_of items
  pub counted : length before ≡ count
  pub eight : length current ≡ 8

pub nothing_read : (accepts : Item → Bool) (all : List ℕ) (ended : List (List (List Line))) (current : List (List Line)) → ended ≡ [] → current ≡ empty_lanes → ReadSoFar accepts all all ended current 0
nothing_read accepts all ended current none empty = record {
  before = [];
  items = [];
  lines = refl;
  said = refl;
  accepted = refl;
  good = refl;
  phased = rw (none, empty) refl;
  counted = refl;
  eight = rw empty refl;
}

good_one : (accepts : Item → Bool) (line : List ℕ) (item : Item) → item_of line ≡ Some item → accepts item ≡ true → is_good_line accepts line ≡ true
good_one accepts line item said accepted = rw said accepted

pub goes_on : (accepts : Item → Bool) (all text line rest : List ℕ) (ended ended' : List (List (List Line))) (current current' : List (List Line)) (count : ℕ) (item : Item)
    → ReadSoFar accepts all text ended current count → lines_of text ≡ line ∷ lines_of rest → item_of line ≡ Some item → accepts item ≡ true
    → ended' ≡ ended_after item ended current → current' ≡ current_after item current → ReadSoFar accepts all rest ended' current' (count + 1)
goes_on accepts all text line rest ended ended' current current' count item r is said accepted ended_is current_is = record {
  before = r.before ++ line ∷ [];
  items = r.items ++ item ∷ [];
  lines = append_assoc r.before (line ∷ []) (lines_of rest) ∙ (ap (λ (ls : List (List ℕ)). r.before ++ ls) (sym is) ∙ r.lines);
  said =
      map-append item_of r.before (line ∷ []) ∙ (rw said (ap (λ (os : List (Option Item)). os ++ Some item ∷ []) r.said)
      ∙ sym (map-append (λ i. Some i) r.items (item ∷ [])));
  accepted = list_all-append accepts r.items (item ∷ []) ∙ rw (r.accepted, accepted) refl;
  good = list_all-append (is_good_line accepts) r.before (line ∷ []) ∙ rw (r.good, good_one accepts line item said accepted) refl;
  phased = rw (ended_is, current_is) (one_more r.items item ended current r.phased);
  counted = omega (arith, length-append r.before (line ∷ []), r.counted);
  eight = ap length current_is ∙ eight_after item current r.eight;
} where
  eight_after : (i : Item) (lanes : List (List Line)) → length lanes ≡ 8 → length (current_after i lanes) ≡ 8
  eight_after Skipped lanes eight = eight
  eight_after Joined lanes eight = refl
  eight_after (OnLane lane line) lanes eight = behind_lane-length lanes lane line ∙ eight

pub all_read : (accepts : Item → Bool) (all text : List ℕ) (ended : List (List (List Line))) (current : List (List Line)) (count : ℕ)
    → ReadSoFar accepts all text ended current count → text ≡ [] → IsWorkloadText accepts all (ended ++ current ∷ [])
all_read accepts all text ended current count r none =
    let whole : r.before ≡ lines_of all = sym (append-nil r.before) ∙ (ap (λ (t : List ℕ). r.before ++ lines_of t) (sym none) ∙ r.lines) in
    record {
      items = r.items;
      said = ap (map item_of) (sym whole) ∙ r.said;
      accepted = r.accepted;
      phased = r.phased;
    }

pub first_bad : (accepts : Item → Bool) (all text line rest : List ℕ) (ended : List (List (List Line))) (current : List (List Line)) (count : ℕ)
    → ReadSoFar accepts all text ended current count → lines_of text ≡ line ∷ lines_of rest → is_good_line accepts line ≡ false → IsFirstBad accepts all (count + 1)
first_bad accepts all text line rest ended current count r is bad = record {
  before = r.before;
  bad = line;
  behind = lines_of rest;
  lines = sym r.lines ∙ ap (λ (ls : List (List ℕ)). r.before ++ ls) is;
  good_before = r.good;
  bad_here = bad;
  counted = omega (arith, r.counted);
}
