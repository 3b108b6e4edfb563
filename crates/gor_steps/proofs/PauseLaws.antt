-- What a pass has paused, over the steps before and behind it.
use Rattle.std.proofs.Common.{◌≡◌, ℕ, ◌+◌, sym, ap, ◌∙◌, subst, Option, Some, None}
use Rattle.gor_model.specs.Objects.{Has}
use Rattle.gor_rule.specs.declared.view.View.{View}
use Rattle.gor_hall.specs.declared.pass.Pass.{Pass}
use Rattle.gor_hall.specs.Passes.{view, held, lane_of}
use Rattle.gor_hall.specs.Calls.{KeepsPauses, HasPaused}
use Rattle.gor_steps.specs.declared.reads.Read.{Read}
use Rattle.gor_steps.specs.declared.reads.Found.{Found}
use Rattle.gor_steps.specs.declared.reads.Found.TheVariants as found
use Rattle.gor_steps.specs.Pauses.{EndsWith, Pauses, PausesIfRead, PausesIfFound}

pub keeps_both : (old mid new : Pass) → KeepsPauses old mid → KeepsPauses mid new → KeepsPauses old new
keeps_both old mid new k l = (l.0 ∙ k.0, l.1 ∙ k.1)

-- a pause that was counted where the series was held and its event was the newest
pub pauses_now : (called : ℕ → Type 0) (old new : Pass) (slot n : ℕ) → HasPaused old new → Has (held old) (slot + 2) → EndsWith (view old) slot n → called n → Pauses called old new n
pauses_now called old new slot n p has ends is = record {
  called = is;
  once = p.count;
  slot = slot;
  holds = subst (λ (v : View). Has v.held (slot + 2)) (sym p.knows) has;
  after = subst (λ (v : View). EndsWith v slot n) (sym p.knows) ends;
}

-- steps behind a pause that count none
pub paused_then : (called : ℕ → Type 0) (old mid new : Pass) (n : ℕ) → Pauses called old mid n → KeepsPauses mid new → Pauses called old new n
paused_then called old mid new n p k = record {
  called = p.called;
  once = k.0 ∙ p.once;
  slot = p.slot;
  holds = subst (λ (v : View). Has v.held (p.slot + 2)) (sym k.1) p.holds;
  after = subst (λ (v : View). EndsWith v p.slot n) (sym k.1) p.after;
}

-- steps of the same lane before a pause that count none
module _ (called : ℕ → ℕ → Type 0) (old mid new : Pass) (same : lane_of mid ≡ lane_of old) (k : KeepsPauses old mid) where
  pub paused_from : (n : ℕ) → Pauses (called (lane_of mid)) mid new n → Pauses (called (lane_of old)) old new n
  paused_from n p = record {
    called = subst (λ (lane : ℕ). called lane n) same p.called;
    once = p.once ∙ ap (λ (c : ℕ). c + 1) k.0;
    slot = p.slot;
    holds = p.holds;
    after = p.after;
  }

  pub read_from : (read : Option Read) → PausesIfRead (called (lane_of mid)) mid new read → PausesIfRead (called (lane_of old)) old new read
  read_from (Some read) p = paused_from read.number p
  read_from None p = keeps_both old mid new k p

  pub found_from : (f : Found) → PausesIfFound (called (lane_of mid)) mid new f → PausesIfFound (called (lane_of old)) old new f
  found_from (found.Read read) p = paused_from read.number p
  found_from (found.Missed n) p = keeps_both old mid new k p
