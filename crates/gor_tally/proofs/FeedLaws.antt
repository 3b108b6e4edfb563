-- What pages given to tallies come to.
use Rattle.std.proofs.Common.{◌≡◌, ℕ, zero, suc, ◌+◌, ◌-◌, ◌*◌, ◌<◌, List, [], ◌∷◌, ◌++◌, length, map, set, take, drop, get_or, refl, ap, sym, subst, ◌∙◌, arith}
use Rattle.gor_model.specs.declared.point.Point.{Point}
use Rattle.gor_tally.specs.Tallies.{Meaning, stepped}
use Rattle.gor_tally.specs.Feeding.{given_to, IsGivenInPart, IsFedInPart}
use Rattle.std.specs.Prelude.{min, OnErr}
use Rattle.std.proofs.Common.{Result, Ok, Err}
use Rattle.std.proofs.lemmas.List.{get_or-map, map-set, length-map, length-take, length-drop}
use Rattle.std.proofs.Math.Seq.{map-set_same, take-add}
use Rattle.gor_tally.proofs.StepLaws.{step-append}

-- what holds anyway
pub on_err : {T E P : Type 0} (r : Result T E) → P → OnErr r P
on_err (Ok x) p = tt
on_err (Err e) p = p

-- the next tally takes the points
pub given-more : (k : ℕ) (points : List Point) (ms : List Meaning) (d : Meaning) → k < length ms
    → set (given_to k points ms) k (stepped points (get_or (given_to k points ms) k d)) ≡ given_to (k + 1) points ms
given-more k points [] d there = absurd (omega (arith, there))
given-more zero points (m ∷ ms) d there = refl
given-more (suc k) points (m ∷ ms) d there =
    let next : suc k + 1 ≡ suc (k + 1) = omega arith in
    let below : k < length ms = omega (arith, there) in
    ap (λ (rest : List Meaning). stepped points m ∷ rest) (given-more k points ms d below) ∙ ap (λ (n : ℕ). given_to n points (m ∷ ms)) (sym next)

pub given-all : (points : List Point) (ms : List Meaning) → given_to (length ms) points ms ≡ map (stepped points) ms
given-all points [] = refl
given-all points (m ∷ ms) = ap (λ (rest : List Meaning). stepped points m ∷ rest) (given-all points ms)

pub length-given : (k : ℕ) (points : List Point) (ms : List Meaning) → length (given_to k points ms) ≡ length ms
length-given zero points ms = refl
length-given (suc k) points [] = refl
length-given (suc k) points (m ∷ ms) = ap suc (length-given k points ms)

pub stepped-append : (A B : List Point) (m : Meaning) → stepped B (stepped A m) ≡ stepped (A ++ B) m
stepped-append A B m = ap (λ (s : List ℕ). record { rule = m.rule; state = s }) (step-append m.rule m.state A B)

pub map_stepped-append : (A B : List Point) (ms : List Meaning) → map (stepped B) (map (stepped A) ms) ≡ map (stepped (A ++ B)) ms
map_stepped-append A B [] = refl
map_stepped-append A B (m ∷ ms) = ap (λ (x : Meaning). x ∷ map (stepped B) (map (stepped A) ms)) (stepped-append A B m) ∙ ap (λ (rest : List Meaning). stepped (A ++ B) m ∷ rest) (map_stepped-append A B ms)

-- some first tallies have the points of both lists, and the others those of the first
pub given-stepped : (k : ℕ) (A B : List Point) (ms : List Meaning)
    → given_to k B (map (stepped A) ms) ≡ map (stepped (A ++ B)) (take k ms) ++ map (stepped A) (drop k ms)
given-stepped zero A B ms = refl
given-stepped (suc k) A B [] = refl
given-stepped (suc k) A B (m ∷ ms) = ap (λ (x : Meaning). x ∷ given_to k B (map (stepped A) ms)) (stepped-append A B m) ∙ ap (λ (rest : List Meaning). stepped (A ++ B) m ∷ rest) (given-stepped k A B ms)

-- the same of whatever shows a meaning
pub shown-more : {B : Type 0} (f : B → Meaning) (bs : List B) (k : ℕ) (points : List Point) (ms : List Meaning) (old new : B)
    → map f bs ≡ given_to k points ms → k < length bs → (old ≡ get_or bs k old) → f new ≡ stepped points (f old) → map f (set bs k new) ≡ given_to (k + 1) points ms
shown-more f bs k points ms old new so_far there at_k took =
    let len : length bs ≡ length ms = sym (length-map bs f) ∙ ap length so_far ∙ length-given k points ms in
    let there_too : k < length ms = omega (arith, len, there) in
    let read : get_or (given_to k points ms) k (f old) ≡ f old = ap (λ (xs : List Meaning). get_or xs k (f old)) (sym so_far) ∙ get_or-map f bs k old (f old) there ∙ ap f (sym at_k) in
    map-set f bs k new ∙ ap (λ (x : Meaning). set (map f bs) k x) (took ∙ ap (stepped points) (sym read)) ∙ ap (λ (xs : List Meaning). set xs k (stepped points (get_or (given_to k points ms) k (f old)))) so_far
    ∙ given-more k points ms (f old) there_too

-- a tally that did not take the points is as it was
pub shown-same : {B : Type 0} (f : B → Meaning) (bs : List B) (k : ℕ) (ms : List Meaning) (old new : B)
    → map f bs ≡ ms → k < length bs → (old ≡ get_or bs k old) → f new ≡ f old → map f (set bs k new) ≡ ms
shown-same f bs k ms old new so_far there at_k same = map-set_same f bs k new old (same ∙ ap f at_k) ∙ so_far

-- no tally is lost
pub shown-count : {B : Type 0} (f : B → Meaning) (bs before : List B) (k : ℕ) (points : List Point) → map f bs ≡ given_to k points (map f before) → length bs ≡ length before
shown-count f bs before k points so_far = sym (length-map bs f) ∙ ap length so_far ∙ length-given k points (map f before) ∙ length-map before f

pub shown-all : {B : Type 0} (f : B → Meaning) (bs before : List B) (k : ℕ) (points : List Point)
    → map f bs ≡ given_to k points (map f before) → length before ≡ k → map f bs ≡ map (stepped points) (map f before)
shown-all f bs before k points so_far all = so_far ∙ ap (λ (n : ℕ). given_to n points (map f before)) (sym all ∙ sym (length-map before f)) ∙ given-all points (map f before)

-- so many points, in whole pages but for the last one, are fed
pub record FedSoFar (page : ℕ) (points : List Point) (fed : ℕ) (before now : List Meaning) : Type 0 where
  pub pages : ℕ
  pub at : fed ≡ min (pages * page) (length points)
  pub took : now ≡ map (stepped (take fed points)) before

pub stepped-none : (ms : List Meaning) → ms ≡ map (stepped []) ms
stepped-none [] = refl
stepped-none (m ∷ ms) = ap (λ (rest : List Meaning). m ∷ rest) (stepped-none ms)

pub none_fed : (page : ℕ) (points : List Point) (ms : List Meaning) → FedSoFar page points 0 ms ms
none_fed page points ms = record { pages = 0; at = omega arith; took = stepped-none ms }

take_len : (n : ℕ) (ps : List Point) → take (length (take n ps)) ps ≡ take n ps
take_len zero ps = refl
take_len (suc n) [] = refl
take_len (suc n) (p ∷ ps) = ap (λ (rest : List Point). p ∷ rest) (take_len n ps)

one_more_page : (pages page : ℕ) → (pages + 1) * page ≡ pages * page + page
one_more_page pages page = grind arith

-- the next page, of which all were given
pub page_fed : (page fed count : ℕ) (points next : List Point) (before now after : List Meaning) → FedSoFar page points fed before now → fed < length points
    → next ≡ take page (drop fed points) → after ≡ map (stepped next) now → count ≡ length next → FedSoFar page points (fed + count) before after
page_fed page fed count points next before now after so_far more next_is given counted =
    subst (λ (n : ℕ). FedSoFar page points (fed + n) before after) (sym counted) (
    let whole : fed ≡ so_far.pages * page = omega (arith, so_far.at, more) in
    let len : length next ≡ min page (length points - fed) = ap length next_is ∙ length-take page (drop fed points) ∙ ap (λ (n : ℕ). min page n) (length-drop fed points) in
    let both : take fed points ++ next ≡ take (fed + length next) points =
    ap (λ (ps : List Point). take fed points ++ ps) (next_is ∙ sym (take_len page (drop fed points)) ∙ ap (λ (n : ℕ). take n (drop fed points)) (ap length (sym next_is))) ∙ sym (take-add fed (length next) points) in
    record {
      pages = so_far.pages + 1;
      at = omega (arith, one_more_page so_far.pages page, whole, len, more);
      took = given ∙ ap (map (stepped next)) so_far.took ∙ map_stepped-append (take fed points) next before ∙ ap (λ (ps : List Point). map (stepped ps) before) both;
    })

-- no page more was given
pub fed_no_more : (page fed : ℕ) (points all : List Point) (before now : List Meaning) → FedSoFar page points fed before now → fed < length points → points ≡ all → IsFedInPart page all before now
fed_no_more page fed points all before now so_far more same =
    subst (λ (ps : List Point). IsFedInPart page ps before now) same (
    let whole : fed ≡ so_far.pages * page = omega (arith, so_far.at, more) in
    record { pages = so_far.pages; more = 0; fed = so_far.took ∙ ap (λ (n : ℕ). map (stepped (take n points)) before) whole })

-- some first tallies were given one page more
pub fed_in_part : (page fed : ℕ) (points all next : List Point) (before now after : List Meaning) → FedSoFar page points fed before now → fed < length points
    → next ≡ take page (drop fed points) → IsGivenInPart next now after → points ≡ all → IsFedInPart page all before after
fed_in_part page fed points all next before now after so_far more next_is given same =
    subst (λ (ps : List Point). IsFedInPart page ps before after) same (
    let whole : fed ≡ so_far.pages * page = omega (arith, so_far.at, more) in
    let both : take fed points ++ next ≡ take (fed + page) points = ap (λ (ps : List Point). take fed points ++ ps) next_is ∙ sym (take-add fed page points) in
    record {
      pages = so_far.pages;
      more = given.0;
      fed = given.1 ∙ ap (given_to given.0 next) so_far.took ∙ given-stepped given.0 (take fed points) next before
          ∙ ap (λ (ps : List Point). map (stepped ps) (take given.0 before) ++ map (stepped (take fed points)) (drop given.0 before)) both
          ∙ ap (λ (n : ℕ). map (stepped (take (n + page) points)) (take given.0 before) ++ map (stepped (take n points)) (drop given.0 before)) whole;
    })
