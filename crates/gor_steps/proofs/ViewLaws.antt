-- What stays true of held parts, and what a mark leaves.
use Rattle.std.proofs.Common.{◌≡◌, ℕ, ◌+◌, ◌<◌, [], ◌∷◌, List, Bool, true, false, Option, Some, None, refl, sym, ap, ◌∙◌, subst, arith, inl, inr, ◌⊎◌, ◌≢◌}
use Rattle.std.specs.Prelude.{IsSome, ◌==◌, cond}
use Rattle.std.specs.Str.{bytes_eq}
use Rattle.gor_model.specs.declared.event.Event.{Event}
use Rattle.gor_model.specs.declared.start.Start.{Start}
use Rattle.gor_model.specs.declared.start.Row.{Row}
use Rattle.gor_model.specs.Names.{key_of}
use Rattle.gor_model.specs.Changes.{History}
use Rattle.gor_model.specs.Objects.{Has, share_of}
use Rattle.gor_model.specs.Shares.{Share, OfDirectory, OfSlot, OfJournal, DirectoryShare, SeriesShare, JournalShare, directory_share, series_share, journal_share}
use Rattle.gor_model.proofs.AgreeLaws.{same_directory, same_slot, same_journal}
use Rattle.gor_model.proofs.EventLaws.{row_share}
use Rattle.gor_model.proofs.NumberedLaws.{directory_at, series_at, journal_at}
use Rattle.gor_model.proofs.SlotLaws.{bytes_tell}
use Rattle.gor_model.specs.Answers.{Legal}
use Rattle.gor_rule.specs.declared.view.View.{View}
use Rattle.gor_rule.specs.Rule.{numbers}
use Rattle.gor_rule.specs.Plays.{without, gave}
use Rattle.std.proofs.lemmas.Bool.Decides.{eqb_tells}
use Rattle.gor_hall.specs.Steps.{HasMarked, AllBelow}
use Rattle.gor_cell.specs.declared.cell.Cell.{Cell}
use Rattle.gor_cell.specs.Packed.{Packed}
use Rattle.gor_cell.specs.Stands as cell
use Rattle.gor_cell.specs.Steps.{holds_key}
use Rattle.gor_dir.specs.Listings.{Listing}
use Rattle.gor_journal.specs.Bodies.{Kept}
use Rattle.gor_journal.specs.Stands as log
use Rattle.gor_steps.specs.declared.held.Held.{Held}
use Rattle.gor_steps.specs.Held.{HasAll}
use Rattle.gor_steps.specs.Views.{HasDirectory, HasSeries, HasJournal, HasEvent}

-- ---- a part stands where its share is as it was

module _ (v w : View) (start : w.start ≡ v.start) where
  slots : w.start.slots ≡ v.start.slots
  slots = ap (λ (z : Start). z.slots) start

  pub directory_stays : (i : Listing) → share_of w.start 1 w.at ≡ share_of v.start 1 v.at → HasDirectory v i → HasDirectory w i
  directory_stays i same stands = stands ∙ same_directory _ _ (sym (directory_at v.start v.at) ∙ (sym same ∙ directory_at w.start w.at))

  pub series_stays : (slot : ℕ) (c : Cell) → slot < v.start.slots → share_of w.start (slot + 2) w.at ≡ share_of v.start (slot + 2) v.at → HasSeries v slot c → HasSeries w slot c
  series_stays slot c low same stands =
      let low' : slot < w.start.slots = subst (λ (n : ℕ). slot < n) (sym slots) low in
      subst (cell.Stands c.live) (same_slot _ _ (sym (series_at v.start slot low v.at) ∙ (sym same ∙ series_at w.start slot low' w.at))) stands

  pub journal_stays : (j : Kept) → share_of w.start (w.start.slots + 2) w.at ≡ share_of v.start (v.start.slots + 2) v.at → HasJournal v j → HasJournal w j
  journal_stays j same stands = subst (log.Stands j.pending) (same_journal _ _ (sym (journal_at v.start v.at) ∙ (sym same ∙ journal_at w.start w.at))) stands

-- ---- a mark

module _ (v w : View) (e : Event) (n : ℕ) (m : HasMarked v e n w) where
  pub marked_start : w.start ≡ v.start
  marked_start = ap (λ (z : View). z.start) m.2

  pub marked_share : (o : ℕ) → Has v.held o → (s : Share) → share_of v.start o (e ∷ v.at) ≡ s → share_of w.start o w.at ≡ s
  marked_share o has s after = subst (λ (z : Start × History). share_of z.0 o z.1 ≡ s) (λ i. (ap (λ (z : View). z.start) (sym m.2) i, ap (λ (z : View). z.at) (sym m.2) i)) (m.4 o has ∙ after)

  pub has_event : HasEvent v n e w
  has_event = record {
    before = m.0;
    start = marked_start;
    seen = ap (λ (z : View). z.seen) m.2;
    begins = m.1.1;
    number = m.1.0;
    legal = subst (λ (z : View). Legal z.start z.seen) (sym m.2) m.3;
    lane = ap (λ (z : View). numbers e.lane z.seen) m.2 ∙ m.5;
    mine = ap (λ (z : View). z.mine) m.2;
  }

  -- the shares of what is held, where those after the event are known

  pub directory_after : Has v.held 1 → (d : DirectoryShare) → share_of v.start 1 (e ∷ v.at) ≡ OfDirectory d → directory_share w.start w.at ≡ d
  directory_after has d after = same_directory _ _ (sym (directory_at w.start w.at) ∙ marked_share 1 has (OfDirectory d) after)

  pub series_after : (slot : ℕ) → slot < v.start.slots → Has v.held (slot + 2) → (x : Option SeriesShare) → share_of v.start (slot + 2) (e ∷ v.at) ≡ OfSlot x → series_share w.start w.at slot ≡ x
  series_after slot low has x after =
      let low' : slot < w.start.slots = subst (λ (z : Start). slot < z.slots) (sym marked_start) low in
      same_slot _ _ (sym (series_at w.start slot low' w.at) ∙ marked_share (slot + 2) has (OfSlot x) after)

  pub journal_after : Has v.held (v.start.slots + 2) → (j : JournalShare) → share_of v.start (v.start.slots + 2) (e ∷ v.at) ≡ OfJournal j → journal_share w.start w.at ≡ j
  journal_after has j after =
      let same : v.start.slots + 2 ≡ w.start.slots + 2 = ap (λ (z : Start). z.slots + 2) (sym marked_start) in
      same_journal _ _ (sym (journal_at w.start w.at) ∙ subst (λ (o : ℕ). share_of w.start o w.at ≡ OfJournal j) same (marked_share (v.start.slots + 2) has (OfJournal j) after))

  -- where the event leaves every share, each part stands on
  module _ (quiet : (o : ℕ) → share_of v.start o (e ∷ v.at) ≡ share_of v.start o v.at) where
    pub directory_on : Has v.held 1 → (i : Listing) → HasDirectory v i → HasDirectory w i
    directory_on has i stands = stands ∙ sym (directory_after has (directory_share v.start v.at) (quiet 1 ∙ directory_at v.start v.at))

    pub series_on : (slot : ℕ) → slot < v.start.slots → Has v.held (slot + 2) → (c : Cell) → HasSeries v slot c → HasSeries w slot c
    series_on slot low has c stands = subst (cell.Stands c.live) (sym (series_after slot low has (series_share v.start v.at slot) (quiet (slot + 2) ∙ series_at v.start slot low v.at))) stands

    pub journal_on : Has v.held (v.start.slots + 2) → (j : Kept) → HasJournal v j → HasJournal w j
    journal_on has j stands = subst (log.Stands j.pending) (sym (journal_after has (journal_share v.start v.at) (quiet (v.start.slots + 2) ∙ journal_at v.start v.at))) stands

    pub all_on : (slot : ℕ) (all : Held) → HasAll v slot all → HasAll w slot all
    all_on slot all stands =
        let has : (o : ℕ) → Has ((v.start.slots + 2) ∷ (slot + 2) ∷ 1 ∷ []) o → Has v.held o = λ o h. subst (λ (z : List ℕ). Has z o) (sym stands.held) h in record {
          held = ap (λ (z : View). z.held) m.2 ∙ (stands.held ∙ ap (λ (z : Start). (z.slots + 2) ∷ (slot + 2) ∷ 1 ∷ []) (sym marked_start));
          low = subst (λ (z : Start). slot < z.slots) (sym marked_start) stands.low;
          directory = directory_on (has 1 (inr (inr (inl refl)))) all.directory stands.directory;
          series = series_on slot stands.low (has (slot + 2) (inr (inl refl))) all.cell stands.series;
          journal = journal_on (has (v.start.slots + 2) (inl refl)) all.journal stands.journal;
        }

-- ---- a series that has a key

abbrev pub IsRowOf : View → ℕ → List ℕ → Row → Type 0
IsRowOf v slot key row = series_share v.start v.at slot ≡ Some (record { key = key; row = row })

-- its share, for which the cell stands
pub series_there : (v : View) (slot : ℕ) (c : Cell) (key : List ℕ) → HasSeries v slot c → holds_key key c.live ≡ true
    → (row : Row) × IsRowOf v slot key row × cell.Stands c.live (Some (record { key = key; row = row }))
series_there v slot c key stands holds = at c.live (series_share v.start v.at slot) refl stands holds where
  at : (live : Option Packed) (share : Option SeriesShare) → series_share v.start v.at slot ≡ share → cell.Stands live share → holds_key key live ≡ true
      → (row : Row) × (share ≡ Some (record { key = key; row = row })) × cell.Stands live (Some (record { key = key; row = row }))
  at None share is st h = absurd (let wrong : false ≡ true = h in cc)
  at (Some s) None is st h = absurd st
  at (Some s) (Some share) is st h = by (bytes_tell key (key_of s.name)) where
    by : ((bytes_eq key (key_of s.name) ≡ true) × (key ≡ key_of s.name)) ⊎ ((bytes_eq key (key_of s.name) ≡ false) × (key ≢ key_of s.name))
        → (row : Row) × (Some share ≡ Some (record { key = key; row = row })) × cell.StandsFor s (record { key = key; row = row })
    by (inl same) =
        let own : share.key ≡ key = st.key ∙ sym same.1 in
        (share.row, ap (λ (k : List ℕ). Some (record { key = k; row = share.row })) own, subst (λ (k : List ℕ). cell.StandsFor s (record { key = k; row = share.row })) own st)
    by (inr apart) = absurd (let wrong : false ≡ true = sym apart.0 ∙ h in cc)

pub row_here : (v : View) (slot : ℕ) (key : List ℕ) (row : Row) → slot < v.start.slots → IsRowOf v slot key row → share_of v.start (slot + 2) v.at ≡ row_share key row
row_here v slot key row low is = series_at v.start slot low v.at ∙ ap OfSlot is

pub holds_live : (key : List ℕ) (live : Option Packed) → holds_key key live ≡ true → IsSome live
holds_live key None h = absurd (let wrong : false ≡ true = h in cc)
holds_live key (Some s) h = search

-- ---- the journal is above all else

pub below_both : (slots slot : ℕ) → slot < slots → AllBelow (slots + 2) ((slot + 2) ∷ 1 ∷ [])
below_both slots slot low o (inl is) = omega (arith, is, low)
below_both slots slot low o (inr (inl is)) = omega (arith, is)
below_both slots slot low o (inr (inr none)) = absurd none

-- ---- gives

-- an object that is held is still held once another was given back
pub has_without : (q o : ℕ) → o ≢ q → (xs : List ℕ) → Has xs o → Has (without q xs) o
has_without q o apart [] h = absurd h
has_without q o apart (x ∷ xs) (inl is) = at (eqb_tells x q) where
  at : ((x == q ≡ true) × (x ≡ q)) ⊎ ((x == q ≡ false) × (x ≢ q)) → Has (without q (x ∷ xs)) o
  at (inl same) = absurd (apart (sym is ∙ same.1))
  at (inr other) = rw other.0 (inl is)
has_without q o apart (x ∷ xs) (inr h) = at (x == q) (has_without q o apart xs h) where
  at : (b : Bool) → Has (without q xs) o → Has (cond b (without q xs) (x ∷ without q xs)) o
  at true more = more
  at false more = inr more

pub event_gave : (v w x : View) (n a b : ℕ) (e : Event) → HasEvent v n e w → x ≡ gave (gave w a) b → HasEvent v n e x
event_gave v w x n a b e h is = subst (HasEvent v n e) (sym is)
    (record { before = h.before; start = h.start; seen = h.seen; begins = h.begins; number = h.number; legal = h.legal; lane = h.lane; mine = h.mine })

pub some_share : (live : Option Packed) (share : SeriesShare) → cell.Stands live (Some share) → IsSome live
some_share None share stands = absurd stands
some_share (Some s) share stands = search

pub no_share : (live : Option Packed) → cell.Stands live None → live ≡ None
no_share None stands = refl
no_share (Some s) stands = absurd stands

-- ---- all three given back, one after another

pub same_one : (a : ℕ) → (a == a) ≡ true
same_one a = by (eqb_tells a a) where
  by : ((a == a ≡ true) × (a ≡ a)) ⊎ ((a == a ≡ false) × (a ≢ a)) → (a == a) ≡ true
  by (inl same) = same.0
  by (inr apart) = absurd (apart.1 refl)

pub differ : (a b : ℕ) → a ≢ b → (a == b) ≡ false
differ a b apart = by (eqb_tells a b) where
  by : ((a == b ≡ true) × (a ≡ b)) ⊎ ((a == b ≡ false) × (a ≢ b)) → (a == b) ≡ false
  by (inl same) = absurd (apart same.1)
  by (inr other) = other.0

pub all_given : (slots slot : ℕ) → slot < slots → without (slot + 2) (without (slots + 2) ((slots + 2) ∷ (slot + 2) ∷ 1 ∷ [])) ≡ 1 ∷ []
all_given slots slot low =
    let a = same_one (slots + 2) in let b = differ (slot + 2) (slots + 2) (λ e. omega arith) in let c = differ 1 (slots + 2) (λ e. omega arith) in
    let d = same_one (slot + 2) in let e = differ 1 (slot + 2) (λ e. omega arith) in
    rw (a, b, c) (rw (d, e) refl)
