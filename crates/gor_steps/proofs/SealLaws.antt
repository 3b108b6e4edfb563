-- The Seal of one series by a finish, by what its pass holds.
use Rattle.std.proofs.Common.{◌≡◌, ℕ, ◌+◌, ◌<◌, ◌≤◌, [], ◌∷◌, List, true, false, Option, Some, None, refl, sym, ap, ◌∙◌, subst, inl, inr, arith, max}
use Rattle.std.specs.Prelude.{IfSome, IsFalse, Result, Ok, Err, OnErr}
use Rattle.std.proofs.lemmas.Bool.{ltb-true, ltb-false}
use Rattle.gor_model.specs.declared.event.Change.TheVariants as change
use Rattle.gor_model.specs.declared.event.Event.{Event}
use Rattle.gor_model.specs.declared.point.Point.{Point}
use Rattle.gor_model.specs.declared.start.Row.{Row}
use Rattle.gor_model.specs.declared.start.Start.{Start}
use Rattle.gor_model.specs.Answers.{Legal}
use Rattle.gor_model.specs.Changes.{History, changes}
use Rattle.gor_model.specs.Fields.{IsNumber}
use Rattle.gor_model.specs.Names.{key_of}
use Rattle.gor_model.specs.Objects.{Has, IsBeginning, share_of}
use Rattle.gor_model.specs.PlainMap.{shard_floor}
use Rattle.gor_model.specs.Shares.{DeviceShare, SeriesShare, SealedSeries, OfSeries, sealed_row, journal_share, series_share}
use Rattle.gor_model.specs.SharesAfter.{device_sealed, journal_with, sealed_to}
use Rattle.gor_model.specs.Starts.{IsStart}
use Rattle.gor_model.specs.Windows.{window_end}
use Rattle.gor_model.proofs.AgreeLaws.{series_back}
use Rattle.gor_model.proofs.EventLaws.{row_share, seal_answered, seal_touched}
use Rattle.gor_model.proofs.NumberedLaws.{device_at, journal_at, seal_series, seal_device, seal_journal}
use Rattle.gor_model.proofs.ObjectLaws.{slots as slots_fit_at}
use Rattle.gor_rule.specs.Rule.{numbers}
use Rattle.gor_rule.specs.declared.view.View.{View}
use Rattle.gor_rule.specs.Plays.{gave, without}
use Rattle.gor_rule.proofs.Numbers.{beginning_trans}
use Rattle.gor_hall.specs.Steps.{HasMarked, HasLooked}
use Rattle.gor_hall.specs.declared.pass.Pass.{Pass}
use Rattle.gor_hall.specs.Passes.{view, lane_of, left_of_pass}
use Rattle.gor_cell.specs.declared.cell.Cell.{Cell}
use Rattle.gor_cell.specs.Packed.{Packed, points_of}
use Rattle.gor_cell.specs.Stands as cells
use Rattle.gor_cell.specs.Steps.{ArePieces, after_seal}
use Rattle.gor_journal.specs.Stands as journals
use Rattle.gor_steps.specs.declared.held.Both.{Both}
use Rattle.gor_steps.specs.declared.seals.Made.{Made}
use Rattle.gor_steps.specs.declared.seals.SealReply.{SealReply}
use Rattle.gor_steps.specs.Finishes.{AreSealed, AreSealedBelow, HasRaised, KeepsDevice, Seals, SealsNone, SealsIn, device_of, is_open_to, seal_event}
use Rattle.gor_steps.specs.Puts.{HasBoth}
use Rattle.gor_steps.specs.Views.{HasSeries, HasNone, HasEvent, IsSound, SeesMore}
use Rattle.gor_steps.proofs.FinishLaws.{device_after, device_stays}
use Rattle.gor_steps.proofs.ReadLaws.{MayBe}
use Rattle.gor_steps.proofs.SealedLaws.{sealed_later, sealed_one, floor_later}
use Rattle.gor_steps.proofs.Uids.{slot_number}
use Rattle.gor_steps.proofs.ViewLaws.{IsRowOf, row_here, marked_start, series_after, journal_after, series_stays, same_one, differ}

-- ---- what goes on from one view to another

-- by the same device, and what has been seen
pub raised_stays : (window : ℕ) (v w : View) → w.start ≡ v.start → w.seen ≡ v.seen → KeepsDevice v w → HasRaised window v → HasRaised window w
raised_stays window v w start seen same r = record {
  runs = ap (λ (d : DeviceShare). d.stopped) same ∙ r.runs;
  reached = subst (λ (d : DeviceShare). window_end window ≤ d.floor) (sym same) r.reached;
  seen = subst (λ (z : Start × History). window_end window ≤ shard_floor z.0 (changes z.1)) (λ i. (sym start i, sym seen i)) r.seen;
}

pub below_stays : (window slot : ℕ) (v w : View) → w.start ≡ v.start → w.seen ≡ v.seen → AreSealedBelow window slot v → AreSealedBelow window slot w
below_stays window slot v w start seen are = subst (λ (z : Start × History). AreSealed z.0 (changes z.1) window slot) (λ i. (sym start i, sym seen i)) are

pub event_from : (v u w : View) (n : ℕ) (e : Event) → HasNone v u → HasEvent u n e w → HasEvent v n e w
event_from v u w n e none h = record {
  before = h.before;
  start = h.start ∙ none.start;
  seen = h.seen;
  begins = subst (λ (H : History). IsBeginning H h.before) none.seen h.begins;
  number = h.number;
  legal = h.legal;
  lane = h.lane ∙ ap (λ (z : List ℕ). n ∷ z) none.mine;
  mine = h.mine ∙ ap (λ (z : List ℕ). n ∷ z) none.mine;
}

-- ---- a cell that is open to a window, and one that is not

pub record IsOpenRow (v : View) (slot window : ℕ) (live : Option Packed) : Type 0 where
  pub row : Row
  pub here : IsRowOf v slot (key_of row.name) row
  pub stands : cells.Stands live (Some (record { key = key_of row.name; row = row }))
  pub under : row.floor < window_end window

pub open_row : (v : View) (slot window : ℕ) (c : Cell) → HasSeries v slot c → is_open_to window c.live ≡ true → IsOpenRow v slot window c.live
open_row v slot window c stands below = at c.live (series_share v.start v.at slot) refl stands below where
  at : (live : Option Packed) (share : Option SeriesShare) → series_share v.start v.at slot ≡ share → cells.Stands live share → is_open_to window live ≡ true → IsOpenRow v slot window live
  at None share is st o = absurd (let wrong : false ≡ true = o in cc)
  at (Some s) None is st o = absurd st
  at (Some s) (Some share) is st o =
      let own : share.key ≡ key_of share.row.name = st.key ∙ ap key_of (sym st.name) in
      record {
        row = share.row;
        here = is ∙ ap (λ (k : List ℕ). Some (record { key = k; row = share.row })) own;
        stands = subst (λ (k : List ℕ). cells.StandsFor s (record { key = k; row = share.row })) own st;
        under = subst (λ (f : ℕ). f < window_end window) (sym st.floor) (ltb-true s.floor (window_end window) o);
      }

closed_share : (window : ℕ) (live : Option Packed) (share : Option SeriesShare) → cells.Stands live share → is_open_to window live ≡ false → IfSome share (λ s. window_end window ≤ s.row.floor)
closed_share window live None st o = tt
closed_share window None (Some share) st o = absurd st
closed_share window (Some s) (Some share) st o = subst (λ (f : ℕ). window_end window ≤ f) (sym st.floor) (ltb-false s.floor (window_end window) o)

-- what a cell shows is its share's
pub shows : (live : Option Packed) (share : SeriesShare) (name : List ℕ) (uid : ℕ) → cells.Stands live (Some share) → IfSome live (λ s. (name ≡ s.name) × (uid ≡ s.uid)) → (name ≡ share.row.name) × (uid ≡ share.row.uid)
shows None share name uid st is = absurd st
shows (Some s) share name uid st is = (is.0 ∙ sym st.name, is.1 ∙ sym st.uid)

points_by : (P : List Point → Type 0) (live : Option Packed) (share : SeriesShare) → cells.Stands live (Some share) → IfSome live (λ s. P (points_of s)) → P share.row.points
points_by P None share st are = absurd st
points_by P (Some s) share st are = subst P (sym st.points) are

pub uid_number : (v : View) → IsSound v → (slot window : ℕ) (live : Option Packed) → IsOpenRow v slot window live → IfSome live (λ s. IsNumber s.uid)
uid_number v sound slot window live o = at live o.stands where
  at : (live : Option Packed) → cells.Stands live (Some (record { key = key_of o.row.name; row = o.row })) → IfSome live (λ s. IsNumber s.uid)
  at None st = absurd st
  at (Some s) st = subst IsNumber st.uid (slot_number v sound slot (key_of o.row.name) o.row o.here)

-- ---- the event

module _ (v : View) (sound : IsSound v) (lane slot first window : ℕ) (both : Both) (stands : HasBoth v slot both) (raised : HasRaised window v) (top : Has v.held 0) (o : IsOpenRow v slot window both.cell.live)
    (made : Made) (seals : SealsIn first window both made) where
  abbrev row : Row
  row = o.row

  abbrev key : List ℕ
  key = key_of row.name

  abbrev share : SeriesShare
  share = record { key = key; row = row }

  told : (made.name ≡ row.name) × (made.uid ≡ row.uid)
  told = shows both.cell.live share made.name made.uid o.stands seals.told

  abbrev e : Event
  e = seal_event lane slot row.name window

  at_slot : share_of v.start (slot + 2) v.at ≡ row_share key row
  at_slot = row_here v slot key row stands.low o.here

  named : e ≡ seal_event lane slot made.name window
  named = ap (λ (name : List ℕ). seal_event lane slot name window) (sym told.0)

  touched : (p : ℕ) → Has ((slot + 2) ∷ 0 ∷ (v.start.slots + 2) ∷ []) p → Has v.held p
  touched p (inl is) = subst (Has v.held) is stands.held_series
  touched p (inr (inl is)) = subst (Has v.held) is top
  touched p (inr (inr (inl is))) = subst (Has v.held) is stands.held_journal
  touched p (inr (inr (inr none))) = absurd none

  pub seal_may : MayBe v (seal_event lane slot made.name window)
  seal_may = subst (MayBe v) named (
    (λ p t. touched p (seal_touched v.start sound.start v.at sound.legal lane slot key window row (device_of v) stands.low at_slot (device_at v.start v.at) (subst IsFalse (sym raised.runs) refl) o.under raised.reached p t)),
    seal_answered v.start sound.start v.at sound.legal lane slot key window row (device_of v) stands.low at_slot (device_at v.start v.at) (subst IsFalse (sym raised.runs) refl) o.under raised.reached,
  )

  -- ---- what then stands

  module _ (w : View) (n : ℕ) (marked : HasMarked v (seal_event lane slot made.name window) n w) where
    m : HasMarked v e n w
    m = subst (λ (x : Event). HasMarked v x n w) (sym named) marked

    start_is : w.start ≡ v.start
    start_is = marked_start v w e n m

    series_then : series_share w.start w.at slot ≡ Some (after_seal window share)
    series_then = series_after v w e n m slot stands.low stands.held_series (Some (after_seal window share)) (seal_series v.start sound.start v.at sound.legal lane slot key row.name window row stands.low at_slot)

    journal_then : journal_share w.start w.at ≡ journal_with (change.Seal key window) (OfSeries row.uid) (journal_share v.start v.at)
    journal_then = journal_after v w e n m stands.held_journal (journal_with (change.Seal key window) (OfSeries row.uid) (journal_share v.start v.at))
        (seal_journal v.start sound.start v.at sound.legal lane slot key row.name window row stands.low at_slot (journal_share v.start v.at) (journal_at v.start v.at))

    abbrev pub sealed_series : SealedSeries
    sealed_series = sealed_row (sealed_to (window_end window) row)

    pub device_then : device_of w ≡ device_sealed sealed_series (device_of v)
    device_then = device_after v w e n m top (device_sealed sealed_series (device_of v))
        (seal_device v.start sound.start v.at sound.legal lane slot key row.name window row stands.low at_slot (device_of v) (device_at v.start v.at))

    pub sealed_both : HasBoth w slot made.both
    sealed_both =
        let held : (p : ℕ) → Has v.held p → Has w.held p = λ p h. subst (λ (z : View). Has z.held p) (sym m.2) h in
        let slots : v.start.slots + 2 ≡ w.start.slots + 2 = ap (λ (z : Start). z.slots + 2) (sym start_is) in
        record {
          low = subst (λ (z : Start). slot < z.slots) (sym start_is) stands.low;
          held_series = held (slot + 2) stands.held_series;
          held_journal = subst (Has w.held) slots (held (v.start.slots + 2) stands.held_journal);
          series = subst (cells.Stands made.both.cell.live) (sym series_then) (seals.cell share o.stands);
          journal = subst (journals.Stands made.both.journal.pending) (sym journal_then)
              (subst (λ (u : ℕ). journals.Stands made.both.journal.pending (journal_with (change.Seal key window) (OfSeries u) (journal_share v.start v.at))) told.1 (seals.journal key (journal_share v.start v.at) stands.journal));
        }

    pub slot_is : sealed_series.slot ≡ slot
    slot_is = let r = series_back v.start v.at (slots_fit_at v.start sound.start v.at sound.legal) slot key row o.here in ap (λ (x : Row). x.slot) (sym r.2) ∙ r.3

    pub uid_is : sealed_series.uid ≡ made.uid
    uid_is = sym told.1

    pub pieces : ArePieces first window sealed_series.points made.sealed.blocks.items
    pieces = points_by (λ ps. ArePieces first window ps made.sealed.blocks.items) made.both.cell.live (after_seal window share) (seals.cell share o.stands) seals.pieces

    -- ---- what has been seen

    begins : IsBeginning v.seen (e ∷ m.0)
    begins = beginning_trans v.seen m.0 (e ∷ m.0) m.1.1 (e ∷ [], refl)

    seen_is : w.seen ≡ e ∷ m.0
    seen_is = ap (λ (z : View). z.seen) m.2

    at_is : w.at ≡ e ∷ m.0
    at_is = ap (λ (z : View). z.at) m.2

    pub raised_then : HasRaised window w
    raised_then = record {
      runs = ap (λ (d : DeviceShare). d.stopped) device_then ∙ raised.runs;
      reached = subst (λ (d : DeviceShare). window_end window ≤ d.floor) (sym device_then) raised.reached;
      seen = subst (λ (z : Start × History). window_end window ≤ shard_floor z.0 (changes z.1)) (λ i. (sym start_is i, sym seen_is i)) (floor_later v.start v.seen (e ∷ m.0) (window_end window) begins raised.seen);
    }

    reached_row : (a b : ℕ) → b ≤ max a b
    reached_row a b = omega arith

    own_so : IfSome (series_share v.start (e ∷ m.0) slot) (λ s. window_end window ≤ s.row.floor)
    own_so = subst (λ (x : Option SeriesShare). IfSome x (λ s. window_end window ≤ s.row.floor))
        (sym (subst (λ (z : Start × History). series_share z.0 z.1 slot ≡ Some (after_seal window share)) (λ i. (start_is i, at_is i)) series_then)) (reached_row row.floor (window_end window))

    pub below_then : AreSealedBelow window slot v → AreSealedBelow window (slot + 1) w
    below_then are = subst (λ (z : Start × History). AreSealed z.0 (changes z.1) window (slot + 1)) (λ i. (sym start_is i, sym seen_is i))
        (sealed_one v.start sound.start (e ∷ m.0) m.3 window slot own_so (sealed_later v.start window slot v.seen (e ∷ m.0) begins m.3 raised.seen are))

-- ---- a look over a series that needs no seal

module _ (v w : View) (is : IsStart v.start) (slot n : ℕ) (low : slot < v.start.slots) (c : Cell) (stands : HasSeries v slot c) (has : Has v.held (slot + 2)) (top : Has v.held 0) (looked : HasLooked v n w) where
  look_start : w.start ≡ v.start
  look_start = ap (λ (z : View). z.start) looked.2

  look_seen : w.seen ≡ looked.0
  look_seen = ap (λ (z : View). z.seen) looked.2

  look_at : w.at ≡ looked.0
  look_at = ap (λ (z : View). z.at) looked.2

  share_is : (p : ℕ) → Has v.held p → share_of w.start p w.at ≡ share_of v.start p v.at
  share_is p h = subst (λ (z : View). share_of z.start p z.at ≡ share_of v.start p v.at) (sym looked.2) (looked.4 p h)

  pub look_series : HasSeries w slot c
  look_series = series_stays v w look_start slot c low (share_is (slot + 2) has) stands

  pub look_device : KeepsDevice v w
  look_device = device_stays v w look_start (share_is 0 top)

  pub look_more : SeesMore v w
  look_more = record {
    start = look_start;
    begins = subst (IsBeginning v.seen) (sym look_seen) looked.1.1;
    legal = subst (λ (z : View). Legal z.start z.seen) (sym looked.2) looked.3;
    mine = ap (λ (z : View). z.mine) looked.2;
    own = λ lane mine. subst (λ (z : View). numbers lane z.seen ≡ v.mine) (sym looked.2) (looked.5 lane mine);
  }

  pub look_raised : (window : ℕ) → HasRaised window v → HasRaised window w
  look_raised window r = record {
    runs = ap (λ (d : DeviceShare). d.stopped) look_device ∙ r.runs;
    reached = subst (λ (d : DeviceShare). window_end window ≤ d.floor) (sym look_device) r.reached;
    seen = subst (λ (z : Start × History). window_end window ≤ shard_floor z.0 (changes z.1)) (λ i. (sym look_start i, sym look_seen i)) (floor_later v.start v.seen looked.0 (window_end window) looked.1.1 r.seen);
  }

  pub look_below : (window : ℕ) → HasRaised window v → is_open_to window c.live ≡ false → AreSealedBelow window slot v → AreSealedBelow window (slot + 1) w
  look_below window r closed are =
      let so : IfSome (series_share v.start looked.0 slot) (λ s. window_end window ≤ s.row.floor) =
      subst (λ (z : Start × History). IfSome (series_share z.0 z.1 slot) (λ s. window_end window ≤ s.row.floor)) (λ i. (look_start i, look_at i)) (closed_share window c.live (series_share w.start w.at slot) look_series closed) in
      subst (λ (z : Start × History). AreSealed z.0 (changes z.1) window (slot + 1)) (λ i. (sym look_start i, sym look_seen i))
      (sealed_one v.start is looked.0 looked.3 window slot so (sealed_later v.start window slot v.seen looked.0 looked.1.1 looked.3 r.seen are))

-- ---- gives

pub both_given : (slots slot : ℕ) → slot < slots → without (slot + 2) (without (slots + 2) ((slots + 2) ∷ (slot + 2) ∷ 0 ∷ [])) ≡ 0 ∷ []
both_given slots slot low =
    let a = same_one (slots + 2) in let b = differ (slot + 2) (slots + 2) (λ e. omega arith) in let c = differ 0 (slots + 2) (λ e. omega arith) in
    let d = same_one (slot + 2) in let e = differ 0 (slot + 2) (λ e. omega arith) in
    rw (a, b, c) (rw (d, e) refl)

pub device_gave_one : (w x : View) (o : ℕ) → x ≡ gave w o → KeepsDevice w x
device_gave_one w x o is = ap (λ (z : View). device_of z) is

pub more_gave : (v w x : View) (o : ℕ) → x ≡ gave w o → SeesMore v w → SeesMore v x
more_gave v w x o is m = subst (SeesMore v) (sym is) (record { start = m.start; begins = m.begins; legal = m.legal; mine = m.mine; own = m.own })

-- ---- from the view before a take

pub seals_from : (old mid new : Pass) (slot first window : ℕ) (r : SealReply) → HasNone (view old) (view mid) → lane_of mid ≡ lane_of old → left_of_pass mid ≡ left_of_pass old → KeepsDevice (view old) (view mid)
    → Seals mid slot first window new r → Seals old slot first window new r
seals_from old mid new slot first window r none lane left device s = record {
  event = event_from (view old) (view mid) (view new) r.number (seal_event (lane_of old) slot r.name window) none
      (subst (λ (l : ℕ). HasEvent (view mid) r.number (seal_event l slot r.name window) (view new)) lane s.event);
  left = s.left ∙ left;
  series = s.series;
  slot_is = s.slot_is;
  uid_is = s.uid_is;
  device = s.device ∙ ap (device_sealed s.series) device;
  pieces = s.pieces;
}

pub none_from : (old mid new : Pass) → HasNone (view old) (view mid) → (view mid).lane ≡ (view old).lane → left_of_pass mid ≡ left_of_pass old → KeepsDevice (view old) (view mid) → SealsNone mid new → SealsNone old new
none_from old mid new none lane left device s = record {
  more = record {
    start = s.more.start ∙ none.start;
    begins = subst (λ (h : History). IsBeginning h (view new).seen) none.seen s.more.begins;
    legal = s.more.legal;
    mine = s.more.mine ∙ none.mine;
    own = λ l is. s.more.own l (lane ∙ is) ∙ none.mine;
  };
  left = s.left ∙ left;
  device = s.device ∙ device;
}

pub none_on : (u v w : View) → HasNone u v → HasNone v w → HasNone u w
none_on u v w a b = record { start = b.start ∙ a.start; seen = b.seen ∙ a.seen; mine = b.mine ∙ a.mine }

-- ---- answers

pub on_err : {A B P : Type 0} (r : Result A B) → P → OnErr r P
on_err (Ok a) p = tt
on_err (Err e) p = p
