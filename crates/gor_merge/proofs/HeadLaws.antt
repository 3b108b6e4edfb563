-- Of heads and of what is left of lists: what a read gives, and what one point more that is taken changes.
use Rattle.std.proofs.Common.{◌≡◌, ℕ, zero, suc, ◌+◌, ◌<◌, ◌≤◌, List, [], ◌∷◌, ◌++◌, length, get_or, set, drop, replicate, refl, sym, ap, subst, ◌∙◌, arith}
use Rattle.std.specs.Prelude.{Option, Some, None, option_map, slice_get}
use Rattle.std.proofs.lemmas.List.{drop_more, drop_all, append_assoc, append-nil}
use Rattle.std.proofs.lemmas.Option.{none-some, same_Some}
use Rattle.gor_model.specs.declared.point.Point.{Point}
use Rattle.gor_model.specs.declared.point.Merged.{Merged}
use Rattle.gor_model.specs.Merges.{placed_from}
use Rattle.gor_merge.specs.Heads.{head_of, heads_from, head_in, left, points_at, NotAfter}

-- the point at a place of its list, as a head
abbrev pub placed : ℕ → Point → Merged
placed place p = record { place = place; point = p }

pub head_read : (place taken : ℕ) (points : List Point) → option_map (placed place) (slice_get points taken) ≡ head_of place (drop taken points)
head_read place zero [] = refl
head_read place (suc taken) [] = refl
head_read place zero (p ∷ points) = refl
head_read place (suc taken) (p ∷ points) = head_read place taken points

pub heads_more : (place : ℕ) (lists : List (List Point)) (heads all : List (Option Merged)) → place < length lists → heads ++ heads_from place (drop place lists) ≡ all
    → (heads ++ head_of place (points_at lists place) ∷ []) ++ heads_from (place + 1) (drop (place + 1) lists) ≡ all
heads_more place lists heads all below is =
    append_assoc heads (head_of place (points_at lists place) ∷ []) (heads_from (place + 1) (drop (place + 1) lists))
    ∙ ap (λ (ls : List (List Point)). heads ++ heads_from place ls) (sym (drop_more lists place [] below)) ∙ is

pub heads_all : (place : ℕ) (lists : List (List Point)) (heads all : List (Option Merged)) → length lists ≤ place → heads ++ heads_from place (drop place lists) ≡ all → heads ≡ all
heads_all place lists heads all end is = sym (append-nil heads) ∙ ap (λ (ls : List (List Point)). heads ++ heads_from place ls) (sym (drop_all place lists end)) ∙ is

-- ---- heads of lists, by place

pub length-heads : (p : ℕ) (lists : List (List Point)) → length (heads_from p lists) ≡ length lists
length-heads p [] = refl
length-heads p (points ∷ lists) = ap suc (length-heads (p + 1) lists)

pub head_at_place : (p : ℕ) (lists : List (List Point)) (k : ℕ) → k < length lists → head_in (heads_from p lists) k ≡ head_of (p + k) (points_at lists k)
head_at_place p [] k below = absurd (omega (arith, below))
head_at_place p (points ∷ lists) zero below = ap (λ w. head_of w points) (omega arith)
head_at_place p (points ∷ lists) (suc k) below =
    head_at_place (p + 1) lists k (omega (arith, below)) ∙ ap (λ w. head_of w (points_at lists k)) (omega arith)

pub heads_set : (p : ℕ) (lists : List (List Point)) (k : ℕ) (points : List Point) → heads_from p (set lists k points) ≡ set (heads_from p lists) k (head_of (p + k) points)
heads_set p [] k points = refl
heads_set p (l ∷ lists) zero points = ap (λ w. head_of w points ∷ heads_from (p + 1) lists) (omega arith)
heads_set p (l ∷ lists) (suc k) points =
    ap (λ (hs : List (Option Merged)). head_of p l ∷ hs) (heads_set (p + 1) lists k points ∙ ap (λ w. set (heads_from (p + 1) lists) k (head_of w points)) (omega arith))

-- a list whose head is a point begins with it
pub begins : (place : ℕ) (points : List Point) (m : Merged) → head_of place points ≡ Some m → (rest : List Point) × (placed place m.point ≡ m) × (points ≡ m.point ∷ rest)
begins place [] m is = absurd (none-some m is)
begins place (p ∷ points) m is =
    let same : placed place p ≡ m = same_Some (placed place p) m is in
    let point : p ≡ m.point = ap (λ w. w.point) same in
    (points, ap (placed place) (sym point) ∙ same, ap (λ w. w ∷ points) point)

-- where each list is at its end, no point is left
pub none_left : (p : ℕ) (lists : List (List Point)) → ((k : ℕ) → k < length lists → NotAfter None (head_of (p + k) (points_at lists k))) → placed_from p lists ≡ []
none_left p [] each = refl
none_left p ([] ∷ lists) each = none_left (p + 1) lists (λ k below. subst (λ w. NotAfter None (head_of w (points_at lists k))) (omega arith) (each (suc k) (omega (arith, below))))
none_left p ((x ∷ points) ∷ lists) each = absurd (each zero (omega arith))

-- ---- what is left behind the points that were taken

pub left_all : (lists : List (List Point)) → left (replicate (length lists) 0) lists ≡ lists
left_all [] = refl
left_all (points ∷ lists) = ap (λ (ls : List (List Point)). points ∷ ls) (left_all lists)

pub length-left : (taken : List ℕ) (lists : List (List Point)) → length taken ≡ length lists → length (left taken lists) ≡ length lists
length-left [] [] same = refl
length-left [] (points ∷ lists) same = absurd (omega (arith, same))
length-left (n ∷ taken) [] same = absurd (omega (arith, same))
length-left (n ∷ taken) (points ∷ lists) same = ap suc (length-left taken lists (omega (arith, same)))

pub left_at : (taken : List ℕ) (lists : List (List Point)) (k : ℕ) → length taken ≡ length lists → k < length lists → points_at (left taken lists) k ≡ drop (get_or taken k 0) (points_at lists k)
left_at [] lists k same below = absurd (omega (arith, same, below))
left_at (n ∷ taken) [] k same below = absurd (omega (arith, below))
left_at (n ∷ taken) (points ∷ lists) zero same below = refl
left_at (n ∷ taken) (points ∷ lists) (suc k) same below = left_at taken lists k (omega (arith, same)) (omega (arith, below))

pub left_set : (taken : List ℕ) (lists : List (List Point)) (k n : ℕ) → left (set taken k n) lists ≡ set (left taken lists) k (drop n (points_at lists k))
left_set [] lists k n = refl
left_set (t ∷ taken) [] zero n = refl
left_set (t ∷ taken) [] (suc k) n = refl
left_set (t ∷ taken) (points ∷ lists) zero n = refl
left_set (t ∷ taken) (points ∷ lists) (suc k) n = ap (λ (ls : List (List Point)). drop t points ∷ ls) (left_set taken lists k n)
