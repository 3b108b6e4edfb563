-- A value that stands for the share of an object is of that object's kind.
use Rattle.std.proofs.Common.{◌≡◌, ℕ, ◌+◌, ◌<◌, sym, ap, ◌∙◌, subst}
use Rattle.gor_model.specs.declared.start.Start.{Start}
use Rattle.gor_model.specs.Changes.{History}
use Rattle.gor_model.specs.Shares.{Share, OfDirectory, OfSlot, OfJournal, directory_share, series_share, journal_share}
use Rattle.gor_model.specs.Objects.{share_of}
use Rattle.gor_model.specs.Starts.{IsStart}
use Rattle.gor_model.proofs.NumberedLaws.{directory_at, series_at, journal_at}
use Rattle.gor_rule.specs.declared.view.View.{View}
use Rattle.gor_hall.specs.Steps.{HasTaken, HasWaited}
use Rattle.gor_hall.proofs.Holding.{waited_stands}
use Rattle.gor_steps.specs.Views.{Takes, IsSound}

module _ {V : Type 0} (Stands : Start → ℕ → V → Share → Type 0) where
  -- ---- as they were taken: the value stands for the share of its kind

  pub took_directory : (v w : View) (x : V) → HasWaited Stands v 1 x w → Stands w.start 1 x (OfDirectory (directory_share w.start w.at))
  took_directory v w x taken = subst (Stands w.start 1 x) (directory_at w.start w.at) (waited_stands Stands v w 1 x taken)

  pub took_series : (v w : View) (o slot : ℕ) (x : V) → o ≡ slot + 2 → slot < w.start.slots → HasWaited Stands v o x w → Stands w.start (slot + 2) x (OfSlot (series_share w.start w.at slot))
  took_series v w o slot x at low taken =
      subst (Stands w.start (slot + 2) x) (series_at w.start slot low w.at) (subst (λ (n : ℕ). Stands w.start n x (share_of w.start n w.at)) at (waited_stands Stands v w o x taken))

  pub took_journal : (v w : View) (o : ℕ) (x : V) → o ≡ w.start.slots + 2 → HasWaited Stands v o x w → Stands w.start (w.start.slots + 2) x (OfJournal (journal_share w.start w.at))
  took_journal v w o x at taken =
      subst (Stands w.start (w.start.slots + 2) x) (journal_at w.start w.at) (subst (λ (n : ℕ). Stands w.start n x (share_of w.start n w.at)) at (waited_stands Stands v w o x taken))

  -- ---- a take that waits for nobody is one after no refused take

  pub at_once : (v w : View) (o : ℕ) (x : V) → HasTaken Stands v o x w → HasWaited Stands v o x w
  at_once v w o x taken = (0, taken)

  pub takes_it : (v w : View) (o : ℕ) (x : V) {start : Start} → IsStart start → v.start ≡ start → HasTaken Stands v o x w → Takes v o w
  takes_it v w o x {start} sound is taken = record {
    none = record { start = ap (λ (z : View). z.start) taken.1; seen = ap (λ (z : View). z.seen) taken.1; mine = ap (λ (z : View). z.mine) taken.1 };
    held = ap (λ (z : View). z.held) taken.1;
    moves = ap (λ (z : View). z.moves) taken.1;
    sound = subst (λ (z : View). IsSound z) (sym taken.1) (record { start = subst IsStart (sym is) sound; legal = taken.3; short = taken.4 });
    shares = λ k has. subst (λ (z : View). share_of z.start k z.at ≡ share_of v.start k v.at) (sym taken.1) (taken.5 k has);
  }

  -- ---- and back

  pub gives_directory : (start : Start) (H : History) (x : V) → Stands start 1 x (OfDirectory (directory_share start H)) → Stands start 1 x (share_of start 1 H)
  gives_directory start H x st = subst (Stands start 1 x) (sym (directory_at start H)) st

  pub gives_series : (start : Start) (slot o : ℕ) → o ≡ slot + 2 → slot < start.slots → (H : History) (x : V) → Stands start o x (OfSlot (series_share start H slot)) → Stands start o x (share_of start o H)
  gives_series start slot o at low H x st = subst (Stands start o x) (sym (series_at start slot low H) ∙ ap (λ (n : ℕ). share_of start n H) (sym at)) st

  pub gives_journal : (start : Start) (o : ℕ) → o ≡ start.slots + 2 → (H : History) (x : V) → Stands start o x (OfJournal (journal_share start H)) → Stands start o x (share_of start o H)
  gives_journal start o at H x st = subst (Stands start o x) (sym (journal_at start H) ∙ ap (λ (n : ℕ). share_of start n H) (sym at)) st
