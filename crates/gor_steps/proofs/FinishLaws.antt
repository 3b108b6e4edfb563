-- The Floor of a finish, by what its pass holds.
use Rattle.std.proofs.Common.{◌≡◌, ℕ, ◌+◌, ◌<◌, ◌≤◌, [], ◌∷◌, List, Bool, true, false, None, refl, sym, ap, ◌∙◌, subst, inl, inr}
use Rattle.std.specs.Prelude.{nat_le, if◌then◌else◌}
use Rattle.std.proofs.lemmas.Bool.{le-leb, lt-leb}
use Rattle.gor_model.specs.declared.event.Call.TheVariants as call
use Rattle.gor_model.specs.declared.event.Change.TheVariants as change
use Rattle.gor_model.specs.declared.event.Event.{Event}
use Rattle.gor_model.specs.declared.event.Reply.{Reply}
use Rattle.gor_model.specs.declared.event.Reply.TheVariants as reply
use Rattle.gor_model.specs.declared.start.Start.{Start}
use Rattle.gor_model.specs.Answers.{IsAnswered}
use Rattle.gor_model.specs.AnswersByShares.{floor_by, unless_by}
use Rattle.gor_model.specs.Objects.{Has, share_of}
use Rattle.gor_model.specs.Shares.{DeviceShare, DirectoryShare, JournalShare, OfDevice, Nothing, directory_share, journal_share}
use Rattle.gor_model.specs.SharesAfter.{device_raised, directory_raised, journal_with}
use Rattle.gor_model.specs.Windows.{window_end}
use Rattle.gor_model.proofs.AgreeLaws.{same_device}
use Rattle.gor_model.proofs.EventLaws.{floor_answered, floor_touched}
use Rattle.gor_model.proofs.NumberedLaws.{device_at, directory_at, journal_at, floor_leaves, floor_device, floor_directory, floor_journal}
use Rattle.gor_rule.specs.declared.view.View.{View}
use Rattle.gor_rule.specs.Plays.{gave}
use Rattle.gor_hall.specs.Steps.{HasMarked}
use Rattle.gor_dir.specs.Listings.{shown}
use Rattle.gor_journal.specs.Stands as log
use Rattle.gor_steps.specs.declared.wide.Wide.{Wide}
use Rattle.gor_steps.specs.declared.floors.FloorAnswer.{FloorAnswer}
use Rattle.gor_steps.specs.declared.floors.FloorAnswer.TheVariants as answer
use Rattle.gor_steps.specs.Finishes.{HasWide, KeepsDevice, FloorTold, FloorsDevice, IsQuietFloor, device_of, floor_reply, floor_event}
use Rattle.gor_steps.specs.Views.{IsSound}
use Rattle.gor_steps.proofs.ReadLaws.{MayBe}
use Rattle.gor_steps.proofs.ViewLaws.{marked_start, marked_share, directory_after, journal_after, directory_on, journal_on}

-- ---- the device's share

pub device_stays : (v w : View) → w.start ≡ v.start → share_of w.start 0 w.at ≡ share_of v.start 0 v.at → KeepsDevice v w
device_stays v w start same = same_device _ _ (sym (device_at w.start w.at) ∙ (same ∙ device_at v.start v.at))

pub device_after : (v w : View) (e : Event) (n : ℕ) → HasMarked v e n w → Has v.held 0 → (d : DeviceShare) → share_of v.start 0 (e ∷ v.at) ≡ OfDevice d → device_of w ≡ d
device_after v w e n m has d after = same_device _ _ (sym (device_at w.start w.at) ∙ marked_share v w e n m 0 has (OfDevice d) after)

pub device_gave : (w x : View) (a b : ℕ) → x ≡ gave (gave w a) b → KeepsDevice w x
device_gave w x a b is = ap (λ (z : View). device_of z) is

-- ---- the Floor

module _ (v : View) (sound : IsSound v) (lane window : ℕ) (wide : Wide) (stands : HasWide v wide) (a : FloorAnswer) (told : FloorTold window wide a) where
  abbrev journal : JournalShare
  journal = journal_share v.start v.at

  has : (o : ℕ) → Has ((v.start.slots + 2) ∷ 1 ∷ 0 ∷ []) o → Has v.held o
  has o h = subst (λ (z : List ℕ). Has z o) (sym stands.held) h

  has_device : Has v.held 0
  has_device = has 0 (inr (inr (inl refl)))

  has_directory : Has v.held 1
  has_directory = has 1 (inr (inl refl))

  has_journal : Has v.held (v.start.slots + 2)
  has_journal = has (v.start.slots + 2) (inl refl)

  touched : (o : ℕ) → Has (0 ∷ 1 ∷ (v.start.slots + 2) ∷ []) o → Has v.held o
  touched o (inl is) = has o (inr (inr (inl is)))
  touched o (inr (inl is)) = has o (inr (inl is))
  touched o (inr (inr (inl is))) = has o (inl is)
  touched o (inr (inr (inr none))) = absurd none

  stopped_is : journal.stopped ≡ wide.journal.pending.stopped
  stopped_is = sym stands.journal.stopped

  floor_is : (device_of v).floor ≡ (shown wide.directory).floor
  floor_is = sym (ap (λ (d : DirectoryShare). d.floor) stands.directory)

  -- what is answered is the answer by the shares
  by_told : (b : FloorAnswer) → FloorTold window wide b → floor_by (device_of v) journal window ≡ floor_reply b
  by_told (answer.Floor floor) t =
      let runs : journal.stopped ≡ false = stopped_is ∙ t.1 in
      let above : nat_le (window_end window) (device_of v).floor ≡ false = ap (nat_le (window_end window)) floor_is ∙ lt-leb (window_end window) (shown wide.directory).floor t.2 in
      ap (λ (x : Bool). unless_by x (if nat_le (window_end window) (device_of v).floor then reply.Sealed (device_of v).floor else reply.Floor (window_end window))) runs
      ∙ (ap (λ (x : Bool). if x then reply.Sealed (device_of v).floor else reply.Floor (window_end window)) above ∙ ap reply.Floor (sym t.0))
  by_told (answer.Sealed floor) t =
      let runs : journal.stopped ≡ false = stopped_is ∙ t.1 in
      let above : nat_le (window_end window) (device_of v).floor ≡ true = ap (nat_le (window_end window)) floor_is ∙ le-leb (window_end window) (shown wide.directory).floor t.2 in
      ap (λ (x : Bool). unless_by x (if nat_le (window_end window) (device_of v).floor then reply.Sealed (device_of v).floor else reply.Floor (window_end window))) runs
      ∙ (ap (λ (x : Bool). if x then reply.Sealed (device_of v).floor else reply.Floor (window_end window)) above ∙ ap reply.Sealed (floor_is ∙ sym t.0))
  by_told answer.Stopped t =
      ap (λ (x : Bool). unless_by x (if nat_le (window_end window) (device_of v).floor then reply.Sealed (device_of v).floor else reply.Floor (window_end window))) (stopped_is ∙ t)

  pub floor_may : window ≤ 596522 → MayBe v (floor_event lane window a)
  floor_may low = (
    (λ o t. touched o (floor_touched v.start sound.start v.at sound.legal lane window (floor_reply a) o t)),
    subst (λ (r : Reply). IsAnswered v.start v.at (record { lane = lane; slot = None; call = call.Floor window; reply = r })) (by_told a told)
        (floor_answered v.start sound.start v.at sound.legal lane (device_of v) journal (device_at v.start v.at) (journal_at v.start v.at) window low),
  )

  -- what then stands
  module _ (w : View) (n : ℕ) (m : HasMarked v (floor_event lane window a) n w) where
    held_then : w.held ≡ (w.start.slots + 2) ∷ 1 ∷ 0 ∷ []
    held_then = ap (λ (z : View). z.held) m.2 ∙ (stands.held ∙ ap (λ (z : Start). (z.slots + 2) ∷ 1 ∷ 0 ∷ []) (sym (marked_start v w (floor_event lane window a) n m)))

    module _ (quiet : IsQuietFloor a) where
      leaves : (b : FloorAnswer) → IsQuietFloor b → (o : ℕ) → share_of v.start o (floor_event lane window b ∷ v.at) ≡ share_of v.start o v.at
      leaves (answer.Floor floor) q o = absurd q
      leaves (answer.Sealed floor) q o = floor_leaves v.start v.at lane None window (reply.Sealed floor) tt o
      leaves answer.Stopped q o = floor_leaves v.start v.at lane None window reply.Stopped tt o

      pub quiet_wide : HasWide w wide
      quiet_wide = record {
        held = held_then;
        directory = directory_on v w (floor_event lane window a) n m (leaves a quiet) has_directory wide.directory stands.directory;
        journal = journal_on v w (floor_event lane window a) n m (leaves a quiet) has_journal wide.journal stands.journal;
      }

      device_then : KeepsDevice v w
      device_then = device_after v w (floor_event lane window a) n m has_device (device_of v) (leaves a quiet 0 ∙ device_at v.start v.at)

      pub quiet_device : (x : View) → KeepsDevice w x → FloorsDevice window a (device_of v) (device_of x)
      quiet_device x same = by a quiet told where
        by : (b : FloorAnswer) → IsQuietFloor b → FloorTold window wide b → FloorsDevice window b (device_of v) (device_of x)
        by (answer.Floor floor) q t = absurd q
        by (answer.Sealed floor) q t = (t.0 ∙ sym floor_is, stopped_is ∙ t.1, subst (λ (f : ℕ). window_end window ≤ f) (sym floor_is) t.2, same ∙ device_then)
        by answer.Stopped q t = (stopped_is ∙ t, same ∙ device_then)

-- a Floor that rises
module _ (v : View) (sound : IsSound v) (lane window floor : ℕ) (wide new : Wide) (stands : HasWide v wide) (told : FloorTold window wide (answer.Floor floor))
    (w : View) (n : ℕ) (m : HasMarked v (floor_event lane window (answer.Floor floor)) n w) where
  abbrev e : Event
  e = floor_event lane window (answer.Floor floor)

  pub raised_wide : shown new.directory ≡ directory_raised (window_end window) (shown wide.directory)
      → ((share : JournalShare) → log.Stands wide.journal.pending share → log.Stands new.journal.pending (journal_with (change.Floor window) Nothing share)) → HasWide w new
  raised_wide directory journal =
      let d = directory_share v.start v.at in let j = journal_share v.start v.at in
      let index : directory_share w.start w.at ≡ directory_raised (window_end window) d =
      directory_after v w e n m (has_directory v sound lane window wide stands (answer.Floor floor) told) (directory_raised (window_end window) d)
      (floor_directory v.start sound.start v.at sound.legal lane window floor d (directory_at v.start v.at)) in
      let logged : journal_share w.start w.at ≡ journal_with (change.Floor window) Nothing j =
      journal_after v w e n m (has_journal v sound lane window wide stands (answer.Floor floor) told) (journal_with (change.Floor window) Nothing j)
      (floor_journal v.start sound.start v.at sound.legal lane window floor j (journal_at v.start v.at)) in
      record {
        held = held_then v sound lane window wide stands (answer.Floor floor) told w n m;
        directory = directory ∙ (ap (directory_raised (window_end window)) stands.directory ∙ sym index);
        journal = subst (log.Stands new.journal.pending) (sym logged) (journal j stands.journal);
      }

  device_now : device_of w ≡ device_raised (window_end window) (device_of v)
  device_now = device_after v w e n m (has_device v sound lane window wide stands (answer.Floor floor) told) (device_raised (window_end window) (device_of v))
      (floor_device v.start sound.start v.at sound.legal lane window floor (device_of v) (device_at v.start v.at))

  stopped_was : (device_of v).stopped ≡ false
  stopped_was = stopped_is v sound lane window wide stands (answer.Floor floor) told ∙ told.1

  pub raised_device : (x : View) → KeepsDevice w x → FloorsDevice window (answer.Floor floor) (device_of v) (device_of x)
  raised_device x same = (
    told.0,
    stopped_was,
    subst (λ (f : ℕ). f < window_end window) (sym (floor_is v sound lane window wide stands (answer.Floor floor) told)) told.2,
    same ∙ device_now,
  )
