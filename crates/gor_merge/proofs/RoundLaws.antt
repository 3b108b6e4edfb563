-- Of a tournament: what a match keeps, and that its root comes after none of the heads.
use Rattle.std.proofs.Common.{◌≡◌, ◌≢◌, ◌⊎◌, inl, inr, ℕ, zero, suc, ◌+◌, ◌-◌, ◌/◌, ◌<◌, ◌≤◌, List, [], ◌∷◌, length, set, drop, refl, sym, ap, subst, ◌∙◌, arith}
use Rattle.std.specs.Prelude.{Option, Some, None}
use Rattle.std.proofs.lemmas.List.{get_or-set_other, get_or-drop, length-drop, length-set, drop-set-lt}
use Rattle.gor_model.specs.declared.point.Merged.{Merged}
use Rattle.gor_merge.specs.Heads.{NotAfter, IsEarlierOf, Wins, head_in}
use Rattle.gor_merge.specs.Rounds.{node_at, IsPlayed, HasNodes, IsPlayedFrom, IsOverBut, IsOver}

-- ---- the order of heads

pub not_after_itself : (p : Option Merged) → NotAfter p p
not_after_itself None = tt
not_after_itself (Some p) = inr (refl, omega arith)

pub not_after_both : (p q r : Option Merged) → NotAfter p q → NotAfter q r → NotAfter p r
not_after_both p q None a b = tt
not_after_both p None (Some r) a b = absurd b
not_after_both None (Some q) (Some r) a b = absurd a
not_after_both (Some p) (Some q) (Some r) (inl a) (inl b) = inl (omega (arith, a, b))
not_after_both (Some p) (Some q) (Some r) (inl a) (inr b) = inl (omega (arith, a, b.0))
not_after_both (Some p) (Some q) (Some r) (inr a) (inl b) = inl (omega (arith, a.0, b))
not_after_both (Some p) (Some q) (Some r) (inr a) (inr b) = inr (a.0 ∙ b.0, omega (arith, a.1, b.1))

-- ---- a match keeps those that do not touch its node

earlier_of_same : (p q f p2 q2 f2 : Option Merged) → p ≡ p2 → q ≡ q2 → f ≡ f2 → IsEarlierOf p q f → IsEarlierOf p2 q2 f2
earlier_of_same p q f p2 q2 f2 a b c is =
    subst (λ w. IsEarlierOf p2 q2 w) c (subst (λ w. IsEarlierOf p2 w f) b (subst (λ w. IsEarlierOf w q f) a is))

pub keeps : (nodes : List (Option Merged)) (n : ℕ) (head : Option Merged) (i : ℕ) → i ≢ n → i + i ≢ n → i + i + 1 ≢ n → IsPlayed nodes i → IsPlayed (set nodes n head) i
keeps nodes n head i here left right played =
    earlier_of_same _ _ _ _ _ _ (sym (get_or-set_other nodes n (i + i) head None left)) (sym (get_or-set_other nodes n (i + i + 1) head None right)) (sym (get_or-set_other nodes n i head None here)) played

-- two numbers are one, or are not
same_or : (a b : ℕ) → (a ≡ b) ⊎ (a ≢ b)
same_or zero zero = inl refl
same_or zero (suc b) = inr (λ is. omega (arith, is))
same_or (suc a) zero = inr (λ is. omega (arith, is))
same_or (suc a) (suc b) = go (same_or a b) where
  go : (a ≡ b) ⊎ (a ≢ b) → (suc a ≡ suc b) ⊎ (suc a ≢ suc b)
  go (inl is) = inl (ap suc is)
  go (inr other) = inr (λ is. other (omega (arith, is)))

-- the match of the node before adds it to those that are played
pub played_more : (from count : ℕ) (nodes : List (Option Merged)) (node : ℕ) (head : Option Merged) → node + 1 ≡ from → IsPlayed (set nodes node head) node
    → IsPlayedFrom from count nodes → IsPlayedFrom node count (set nodes node head)
played_more from count nodes node head next here played = λ i one low high. go i one low high (same_or i node) where
  go : (i : ℕ) → 1 ≤ i → node ≤ i → i < count → (i ≡ node) ⊎ (i ≢ node) → IsPlayed (set nodes node head) i
  go i one low high (inl is) = subst (λ w. IsPlayed (set nodes node head) w) (sym is) here
  go i one low high (inr other) = keeps nodes node head i other (λ is. other (omega (arith, is, low))) (λ is. omega (arith, is, low)) (played i one (omega (arith, low, other, next)) high)

-- the match of the node above leaves at most the one above that open
pub played_above : (count : ℕ) (nodes : List (Option Merged)) (below node : ℕ) (head : Option Merged) → 1 ≤ node → (node + node ≡ below) ⊎ (node + node + 1 ≡ below)
    → IsPlayed (set nodes node head) node → IsOverBut below count nodes → IsOverBut node count (set nodes node head)
played_above count nodes below node head inner above here played = λ i one high left right. go i one high left right (same_or i node) where
  apart : (i : ℕ) → i ≢ node → (node + node ≡ below) ⊎ (node + node + 1 ≡ below) → (i + i ≢ below) × (i + i + 1 ≢ below)
  apart i other (inl is) = (λ x. other (omega (arith, x, is)), λ x. omega (arith, x, is))
  apart i other (inr is) = (λ x. omega (arith, x, is), λ x. other (omega (arith, x, is)))

  go : (i : ℕ) → 1 ≤ i → i < count → i + i ≢ node → i + i + 1 ≢ node → (i ≡ node) ⊎ (i ≢ node) → IsPlayed (set nodes node head) i
  go i one high left right (inl is) = subst (λ w. IsPlayed (set nodes node head) w) (sym is) here
  go i one high left right (inr other) = keeps nodes node head i other left right (let a = apart i other above in played i one high a.0 a.1)

pub halved : (n : ℕ) → (n / 2 + n / 2 ≡ n) ⊎ (n / 2 + n / 2 + 1 ≡ n)
halved n = go (same_or (n / 2 + n / 2) n) where
  go : (n / 2 + n / 2 ≡ n) ⊎ (n / 2 + n / 2 ≢ n) → (n / 2 + n / 2 ≡ n) ⊎ (n / 2 + n / 2 + 1 ≡ n)
  go (inl is) = inl is
  go (inr other) = inr (omega (arith, other))

-- half of a number, at most one off
pub half_within : (i j : ℕ) → (i + i ≡ j) ⊎ (i + i + 1 ≡ j) → (i + i ≤ j) × (j ≤ i + i + 1)
half_within i j (inl is) = (omega (arith, is), omega (arith, is))
half_within i j (inr is) = (omega (arith, is), omega (arith, is))

-- ---- a step of a loop, over the nodes after its match

counted_after : (count : ℕ) (nodes after : List (Option Merged)) (n : ℕ) (head : Option Merged) → after ≡ set nodes n head → HasNodes count nodes → HasNodes count after
counted_after count nodes after n head is counted = record { twice = ap length is ∙ length-set nodes n head ∙ counted.twice; few = counted.few }

heads_after : (count : ℕ) (nodes after first : List (Option Merged)) (n : ℕ) (head : Option Merged) → after ≡ set nodes n head → n < count → drop count nodes ≡ first → drop count after ≡ first
heads_after count nodes after first n head is inner same = ap (drop count) is ∙ drop-set-lt count nodes n head inner ∙ same

pub step_down : (count from node : ℕ) (nodes after first : List (Option Merged)) (head : Option Merged) → after ≡ set nodes node head → node + 1 ≡ from → from ≤ count → IsPlayed after node
    → HasNodes count nodes → drop count nodes ≡ first → IsPlayedFrom from count nodes
    → record { counted : HasNodes count after; within : node ≤ count; heads : drop count after ≡ first; played : IsPlayedFrom node count after }
step_down count from node nodes after first head is next within here counted same played = record {
  counted = counted_after count nodes after node head is counted;
  within = omega (arith, next, within);
  heads = heads_after count nodes after first node head is (omega (arith, next, within)) same;
  played = subst (IsPlayedFrom node count) (sym is) (played_more from count nodes node head next (subst (λ w. IsPlayed w node) is here) played);
}

pub step_up : (count below node : ℕ) (nodes after first : List (Option Merged)) (head : Option Merged) → after ≡ set nodes node head → (node + node ≡ below) ⊎ (node + node + 1 ≡ below)
    → 1 < below → below < count + count → IsPlayed after node → HasNodes count nodes → drop count nodes ≡ first → IsOverBut below count nodes
    → record { counted : HasNodes count after; one : 1 ≤ node; within : node < count + count; heads : drop count after ≡ first; played : IsOverBut node count after }
step_up count below node nodes after first head is above low high here counted same played =
    let near = half_within node below above in
    let inner : 1 ≤ node = omega (arith, near.1, low) in
    record {
      counted = counted_after count nodes after node head is counted;
      one = inner;
      within = omega (arith, near.0, high);
      heads = heads_after count nodes after first node head is (omega (arith, near.0, high)) same;
      played = subst (IsOverBut node count) (sym is) (played_above count nodes below node head inner above (subst (λ w. IsPlayed w node) is here) played);
    }

less_or : (a b : ℕ) → (a < b) ⊎ (b ≤ a)
less_or a zero = inr (omega arith)
less_or zero (suc b) = inl (omega arith)
less_or (suc a) (suc b) = more (less_or a b) where
  more : (a < b) ⊎ (b ≤ a) → (suc a < suc b) ⊎ (suc b ≤ suc a)
  more (inl less) = inl (omega (arith, less))
  more (inr least) = inr (omega (arith, least))

-- ---- the root

-- some leaf holds what stands at a node
abbrev IsHead : ℕ → List (Option Merged) → ℕ → Type 0
IsHead count nodes i = (place : ℕ) × (place < count) × (node_at nodes (count + place) ≡ node_at nodes i)

up : (nodes : List (Option Merged)) (i j : ℕ) → (i + i ≡ j) ⊎ (i + i + 1 ≡ j) → IsPlayed nodes i → NotAfter (node_at nodes 1) (node_at nodes i) → NotAfter (node_at nodes 1) (node_at nodes j)
up nodes i j (inl is) played before = not_after_both (node_at nodes 1) (node_at nodes i) (node_at nodes j) before (subst (λ w. NotAfter (node_at nodes i) (node_at nodes w)) is played.left)
up nodes i j (inr is) played before = not_after_both (node_at nodes 1) (node_at nodes i) (node_at nodes j) before (subst (λ w. NotAfter (node_at nodes i) (node_at nodes w)) is played.right)

leaf : (count : ℕ) (nodes : List (Option Merged)) (i : ℕ) → count ≤ i → i < count + count → IsHead count nodes i
leaf count nodes i least high = (i - count, omega (arith, least, high), ap (λ w. node_at nodes w) (omega (arith, least)))

down : (count : ℕ) (nodes : List (Option Merged)) (i : ℕ) → i < count → 1 ≤ i → IsPlayed nodes i → ((j : ℕ) → i < j → j < count + count → IsHead count nodes j) → IsHead count nodes i
down count nodes i less one played under = go played.one where
  go : (node_at nodes i ≡ node_at nodes (i + i)) ⊎ (node_at nodes i ≡ node_at nodes (i + i + 1)) → IsHead count nodes i
  go (inl is) = let s = under (i + i) (omega (arith, one)) (omega (arith, less)) in (s.0, s.1, s.2 ∙ sym is)
  go (inr is) = let s = under (i + i + 1) (omega (arith, one)) (omega (arith, less)) in (s.0, s.1, s.2 ∙ sym is)

none_there : (nodes : List (Option Merged)) → length nodes ≡ 0 → node_at nodes 1 ≡ None
none_there [] empty = refl
none_there (x ∷ nodes) empty = absurd (omega (arith, empty))

module _ (count : ℕ) (nodes : List (Option Merged)) (over : IsOver count nodes) where
  leads : (fuel j : ℕ) → j ≤ fuel → 1 ≤ j → j < count + count → NotAfter (node_at nodes 1) (node_at nodes j)
  leads zero j small one high = absurd (omega (arith, small, one))
  leads (suc fuel) zero small one high = absurd (omega (arith, one))
  leads (suc fuel) (suc zero) small one high = not_after_itself (node_at nodes 1)
  leads (suc fuel) (suc (suc k)) small one high =
      let j : ℕ = suc (suc k) in
      let i : ℕ = j / 2 in
      let half = halved j in
      let near = half_within i j half in
      let above : 1 ≤ i = omega (arith, near.1) in
      let less : i < count = omega (arith, near.0, high) in
      up nodes i j half (over.played i above above less) (leads fuel i (omega (arith, near.0, small)) above (omega (arith, less)))

  stands : (fuel i : ℕ) → count ≤ i + fuel → 1 ≤ i → i < count + count → IsHead count nodes i
  stands zero i near one high = leaf count nodes i (omega (arith, near)) high
  stands (suc fuel) i near one high =
      elim (less_or i count) [ inl less ↦ down count nodes i less one (over.played i one one less) (λ j more within. stands fuel j (omega (arith, near, more)) (omega (arith, more)) within) | inr least ↦ leaf count nodes i least high ]

  count_is : length (drop count nodes) ≡ count
  count_is = length-drop count nodes ∙ omega (arith, over.counted.twice)

  one_of : (n : ℕ) → n ≡ count → (node_at nodes 1 ≡ None) ⊎ ((place : ℕ) × (place < length (drop count nodes)) × (head_in (drop count nodes) place ≡ node_at nodes 1))
  one_of zero is = inl (none_there nodes (omega (arith, over.counted.twice, is)))
  one_of (suc n) is =
      let s = stands count 1 (omega arith) (omega arith) (omega (arith, is)) in
      inr (s.0, omega (arith, s.1, count_is), get_or-drop count nodes s.0 None ∙ s.2)

  pub root_wins : Wins (drop count nodes) (node_at nodes 1)
  root_wins = record {
    one = one_of count refl;
    first = λ place within.
        subst (λ w. NotAfter (node_at nodes 1) w) (sym (get_or-drop count nodes place None)) (leads (count + place) (count + place) (omega arith) (omega (arith, within, count_is)) (omega (arith, within, count_is)));
  }
