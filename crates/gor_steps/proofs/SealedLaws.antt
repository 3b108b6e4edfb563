-- A series that is sealed up to a window stays so, and one that begins once the shard's floor has reached its end is so.
use Rattle.std.proofs.Common.{◌≡◌, ℕ, ◌+◌, ◌<◌, ◌≤◌, [], ◌∷◌, ◌++◌, List, Bool, true, false, Option, Some, None, refl, sym, ◌∙◌, subst, ◌⊎◌, inl, inr, ⊎_elim, arith, max}
use Rattle.std.specs.Prelude.{IfSome, option_map, unwrap_or, if◌then◌else◌}
use Rattle.std.specs.List.{cons_option}
use Rattle.std.specs.Str.{bytes_eq}
use Rattle.std.proofs.lemmas.Bool.{cases_lt}
use Rattle.gor_model.specs.declared.event.Change.{Change}
use Rattle.gor_model.specs.declared.event.Change.TheVariants.{Put, Del, Floor, Seal}
use Rattle.gor_model.specs.declared.start.Row.{Row}
use Rattle.gor_model.specs.declared.start.Start.{Start}
use Rattle.gor_model.specs.Answers.{Legal}
use Rattle.gor_model.specs.Changes.{History, changed, changes}
use Rattle.gor_model.specs.Objects.{IsBeginning}
use Rattle.gor_model.specs.PlainMap.{shard_floor, begun_row, row_after, with_kept}
use Rattle.gor_model.specs.Shares.{SeriesShare, series_share}
use Rattle.gor_model.specs.Starts.{IsStart}
use Rattle.gor_model.specs.Windows.{window_end}
use Rattle.gor_model.proofs.AnswerLaws.{series_held}
use Rattle.gor_model.proofs.LegalLaws.{legal_fits}
use Rattle.gor_model.proofs.ObjectLaws.{slots}
use Rattle.gor_model.proofs.PlainMapLaws.{row_after-cons, row_after_change, with_point, raised_to}
use Rattle.gor_model.proofs.SlotLaws.{ChangesFit, no_stray_seals}
use Rattle.gor_steps.specs.Finishes.{AreSealed}

-- ---- the shard's floor never falls

floor_more : (start : Start) (c : Option Change) (C : List Change) (n : ℕ) → n ≤ shard_floor start C → n ≤ shard_floor start (cons_option c C)
floor_more start None C n low = low
floor_more start (Some (Put name k t w)) C n low = low
floor_more start (Some (Del k)) C n low = low
floor_more start (Some (Floor w)) C n low = let m = shard_floor start C in let e = window_end w in above m e low where
  above : (a b : ℕ) → n ≤ a → n ≤ max a b
  above a b less = omega arith
floor_more start (Some (Seal k w)) C n low = low

pub floor_on : (start : Start) (news seen : History) (n : ℕ) → n ≤ shard_floor start (changes seen) → n ≤ shard_floor start (changes (news ++ seen))
floor_on start [] seen n low = low
floor_on start (e ∷ news) seen n low = floor_more start (changed e.call e.reply) (changes (news ++ seen)) n (floor_on start news seen n low)

pub floor_later : (start : Start) (seen log : History) (n : ℕ) → IsBeginning seen log → n ≤ shard_floor start (changes seen) → n ≤ shard_floor start (changes log)
floor_later start seen log n begins low = subst (λ (h : History). n ≤ shard_floor start (changes h)) begins.1 (floor_on start begins.0 seen n low)

-- ---- sealed series

module _ (start : Start) (window slot : ℕ) where
  abbrev IsSo : Row → Type 0
  IsSo row = row.slot < slot → window_end window ≤ row.floor

  more : (C : List Change) → window_end window ≤ shard_floor start C → (key : List ℕ) (c : Change) (row : Option Row) → IfSome row IsSo
      → IfSome (row_after_change (λ n. begun_row start (record { name = n; point = record { time = 0; word = 0 }; before = C })) key c row) IsSo
  more C reached key (Put name k t w) row so = at (bytes_eq key k) row so where
    at : (b : Bool) (row : Option Row) → IfSome row IsSo
        → IfSome (if b then Some (with_point (record { time = t; word = w }) (unwrap_or row (begun_row start (record { name = name; point = record { time = 0; word = 0 }; before = C })))) else row) IsSo
    at true None so = λ low. reached
    at true (Some r) so = so
    at false row so = so
  more C reached key (Del k) row so = at (bytes_eq key k) where
    at : (b : Bool) → IfSome (if b then None else row) IsSo
    at true = tt
    at false = so
  more C reached key (Floor w) row so = so
  more C reached key (Seal k w) row so = at (bytes_eq key k) row so where
    above : (a b : ℕ) → window_end window ≤ a → window_end window ≤ max a b
    above a b less = let e = window_end window in omega arith

    at : (b : Bool) (row : Option Row) → IfSome row IsSo → IfSome (if b then option_map (raised_to (window_end w)) row else row) IsSo
    at true None so = tt
    at true (Some r) so = λ low. above r.floor (window_end w) (so low)
    at false row so = so

  one_more : (c : Option Change) (C : List Change) → ChangesFit start C → window_end window ≤ shard_floor start C → AreSealed start C window slot → AreSealed start (cons_option c C) window slot
  one_more None C fit reached are = are
  one_more (Some c) C fit reached are = λ key. subst (λ (r : Option Row). IfSome r IsSo) (sym (row_after-cons start c C key (no_stray_seals start C fit key))) (more C reached key c (row_after start C key) (are key))

  on : (news seen : History) → Legal start (news ++ seen) → window_end window ≤ shard_floor start (changes seen) → AreSealed start (changes seen) window slot → AreSealed start (changes (news ++ seen)) window slot
  on [] seen legal reached are = are
  on (e ∷ news) seen legal reached are =
      one_more (changed e.call e.reply) (changes (news ++ seen)) (legal_fits start (news ++ seen) legal.0) (floor_on start news seen (window_end window) reached) (on news seen legal.0 reached are)

  -- they stay so in a longer history
  pub sealed_later : (seen log : History) → IsBeginning seen log → Legal start log → window_end window ≤ shard_floor start (changes seen) → AreSealed start (changes seen) window slot → AreSealed start (changes log) window slot
  sealed_later seen log begins legal reached are =
      subst (λ (h : History). AreSealed start (changes h) window slot) begins.1 (on begins.0 seen (subst (Legal start) (sym begins.1) legal) reached are)

-- ---- one slot more, by the share of its series

IsShareSo : ℕ → Option SeriesShare → Type 0
IsShareSo window share = IfSome share (λ s. window_end window ≤ s.row.floor)

by_share : (start : Start) (is : IsStart start) (h : History) (legal : Legal start h) (window slot : ℕ) (share : Option SeriesShare) → series_share start h slot ≡ share
    → IfSome share (λ s. window_end window ≤ s.row.floor) → (key : List ℕ) (row : Row) → row_after start (changes h) key ≡ Some row → row.slot ≡ slot → window_end window ≤ row.floor
by_share start is h legal window slot share here so key row there at =
    let held : series_share start h slot ≡ Some (record { key = key; row = with_kept row }) =
    subst (λ (s : ℕ). series_share start h s ≡ Some (record { key = key; row = with_kept row })) at (series_held start h (slots start is h legal) key row there) in
    subst (λ (s : Option SeriesShare). IfSome s (λ s. window_end window ≤ s.row.floor)) (sym here ∙ held) so

pub sealed_one : (start : Start) (is : IsStart start) (h : History) (legal : Legal start h) (window slot : ℕ) → IfSome (series_share start h slot) (λ s. window_end window ≤ s.row.floor)
    → AreSealed start (changes h) window slot → AreSealed start (changes h) window (slot + 1)
sealed_one start is h legal window slot so are key = at (row_after start (changes h) key) refl (are key) where
  at : (o : Option Row) → row_after start (changes h) key ≡ o → IfSome o (λ row. row.slot < slot → window_end window ≤ row.floor) → IfSome o (λ row. row.slot < slot + 1 → window_end window ≤ row.floor)
  at None there below = tt
  at (Some row) there below = λ low. ⊎_elim (λ less. below less) (λ same. by_share start is h legal window slot (series_share start h slot) refl so key row there same) (apart row.slot slot low) where
    apart : (a b : ℕ) → a < b + 1 → (a < b) ⊎ (a ≡ b)
    apart a b low = ⊎_elim (λ less. inl less) (λ more. inr (omega arith)) (cases_lt a b)
