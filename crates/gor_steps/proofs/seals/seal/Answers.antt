use Rattle.std.proofs.Common.{ℕ, ◌+◌, List, refl, sym, ap, subst, ◌∙◌, inl, inr, arith}
use Rattle.gor_model.specs.Objects.{Has}
use Rattle.gor_rule.specs.declared.view.View.{View}
use Rattle.gor_rule.specs.Plays.{without}
use Rattle.gor_hall.specs.Halls.{start_of}
use Rattle.gor_hall.specs.Passes.{view}
use Rattle.gor_steps.specs.Finishes.{seal_event}
use Rattle.gor_steps.specs.Views.{HasEvent}
use Rattle.gor_steps.proofs.Bounds.{journal_low}
use Rattle.gor_steps.proofs.FinishLaws.{device_gave}
use Rattle.gor_steps.proofs.SealLaws.{both_given, open_row, uid_number, seal_may, sealed_both, sealed_series, device_then, slot_is, uid_is, pieces, below_then, below_stays}
use Rattle.gor_steps.proofs.ViewLaws.{has_event, event_gave}
use Rattle.gor_steps.proofs.seals.seal.Goals as goal

pub seal_in-requires-clause-uid : goal.seal_in-requires-clause-uid
seal_in-requires-clause-uid g c =
    let v = view c.args.pass.now in
    let top = subst (λ (z : List ℕ). Has z 0) (sym c.requires.pass.2) (inr (inr (inl refl))) in
    let o = open_row v c.args.slot c.args.window c.args.both.cell c.requires.stands.series c.requires.open in
    uid_number v c.requires.sound c.args.slot c.args.window c.args.both.cell.live o

pub seal_in-requires-clause-numbers : goal.seal_in-requires-clause-numbers
seal_in-requires-clause-numbers g c = journal_low (view c.args.pass.now) c.requires.sound c.args.both.journal c.requires.stands.journal

pub mark-number-requires-clause-event : goal.mark-number-requires-clause-event
mark-number-requires-clause-event g c =
    let v = view c.args.pass.now in
    let top = subst (λ (z : List ℕ). Has z 0) (sym c.requires.pass.2) (inr (inr (inl refl))) in
    let o = open_row v c.args.slot c.args.window c.args.both.cell c.requires.stands.series c.requires.open in
    let made = c.in-Ok.made in let seals = c.in-Ok.ensures.ok in
    let m = seal_may v c.requires.sound c.lane.result c.args.slot c.args.first c.args.window c.args.both c.requires.stands c.requires.raised top o made seals in
    (c.lane.ensures, c.requires.pass.1, m.0, m.1)

pub give_both-requires-clause-stands : goal.give_both-requires-clause-stands
give_both-requires-clause-stands g c =
    let v = view c.args.pass.now in
    let top = subst (λ (z : List ℕ). Has z 0) (sym c.requires.pass.2) (inr (inr (inl refl))) in
    let o = open_row v c.args.slot c.args.window c.args.both.cell c.requires.stands.series c.requires.open in
    let made = c.in-Ok.made in let seals = c.in-Ok.ensures.ok in
    let w = view c.mark-number.new.pass in let marked = c.mark-number.ensures.marked in
    sealed_both v c.requires.sound c.lane.result c.args.slot c.args.first c.args.window c.args.both c.requires.stands c.requires.raised top o made seals w c.mark-number.result marked

pub returns-in-Err-clause-pass : goal.returns-in-Err-clause-pass
returns-in-Err-clause-pass g c =
    let slots = (start_of c.args.shard.now).slots in
    let held = ap (λ (z : View). z.held) c.give_both-in-Err.ensures.gave ∙ (ap (λ (z : List ℕ). without (c.args.slot + 2) (without (slots + 2) z)) c.requires.pass.2 ∙ both_given slots c.args.slot c.requires.slot) in
    (c.give_both-in-Err.ensures.pass.0, held, c.give_both-in-Err.ensures.pass.1)

pub returns-in-Ok-clause-seals : goal.returns-in-Ok-clause-seals
returns-in-Ok-clause-seals g c =
    let v = view c.args.pass.now in
    let top = subst (λ (z : List ℕ). Has z 0) (sym c.requires.pass.2) (inr (inr (inl refl))) in
    let o = open_row v c.args.slot c.args.window c.args.both.cell c.requires.stands.series c.requires.open in
    let made = c.in-Ok.made in let seals = c.in-Ok.ensures.ok in
    let w = view c.mark-number.new.pass in let marked = c.mark-number.ensures.marked in
    let x = view c.give_both.new.pass in
    let e = seal_event c.lane.result c.args.slot made.name c.args.window in record {
      event = subst (λ (lane : ℕ). HasEvent v c.mark-number.result (seal_event lane c.args.slot made.name c.args.window) x) c.lane.ensures
          (event_gave v w x c.mark-number.result ((start_of c.args.shard.now).slots + 2) (c.args.slot + 2) e (has_event v w e c.mark-number.result marked) c.give_both.ensures.gave);
      left = (let a = c.mark-number.ensures.pass.2 in let b = c.give_both.ensures.pass.2 in omega arith);
      series = sealed_series v c.requires.sound c.lane.result c.args.slot c.args.first c.args.window c.args.both c.requires.stands c.requires.raised top o made seals w c.mark-number.result marked;
      slot_is = slot_is v c.requires.sound c.lane.result c.args.slot c.args.first c.args.window c.args.both c.requires.stands c.requires.raised top o made seals w c.mark-number.result marked;
      uid_is = uid_is v c.requires.sound c.lane.result c.args.slot c.args.first c.args.window c.args.both c.requires.stands c.requires.raised top o made seals w c.mark-number.result marked;
      device = device_gave w x ((start_of c.args.shard.now).slots + 2) (c.args.slot + 2) c.give_both.ensures.gave ∙ device_then v c.requires.sound c.lane.result c.args.slot c.args.first c.args.window c.args.both c.requires.stands c.requires.raised top o made seals w c.mark-number.result marked;
      pieces = pieces v c.requires.sound c.lane.result c.args.slot c.args.first c.args.window c.args.both c.requires.stands c.requires.raised top o made seals w c.mark-number.result marked;
    }

pub returns-in-Ok-clause-below : goal.returns-in-Ok-clause-below
returns-in-Ok-clause-below g c =
    let v = view c.args.pass.now in
    let top = subst (λ (z : List ℕ). Has z 0) (sym c.requires.pass.2) (inr (inr (inl refl))) in
    let o = open_row v c.args.slot c.args.window c.args.both.cell c.requires.stands.series c.requires.open in
    let made = c.in-Ok.made in let seals = c.in-Ok.ensures.ok in
    let w = view c.mark-number.new.pass in let marked = c.mark-number.ensures.marked in
    let x = view c.give_both.new.pass in
    λ are. below_stays c.args.window (c.args.slot + 1) w x (ap (λ (z : View). z.start) c.give_both.ensures.gave) (ap (λ (z : View). z.seen) c.give_both.ensures.gave)
    (below_then v c.requires.sound c.lane.result c.args.slot c.args.first c.args.window c.args.both c.requires.stands c.requires.raised top o made seals w c.mark-number.result marked are)
