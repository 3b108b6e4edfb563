use Rattle.std.proofs.Common.{ℕ, ◌+◌, ◌<◌, List, refl, sym, ap, subst, ◌∙◌, inl, inr, arith}
use Rattle.gor_model.specs.declared.start.Start.{Start}
use Rattle.gor_model.specs.Objects.{Has}
use Rattle.gor_model.specs.Starts.{IsStart}
use Rattle.gor_rule.specs.declared.view.View.{View}
use Rattle.gor_hall.specs.Passes.{view}
use Rattle.gor_steps.proofs.SealLaws.{look_series, look_device, look_more, look_raised, look_below, raised_stays, below_stays, more_gave, device_gave_one}
use Rattle.gor_steps.proofs.seals.pass_by.Goals as goal

pub give_series-requires-clause-stands : goal.give_series-requires-clause-stands
give_series-requires-clause-stands g c =
    let v = view c.args.pass.now in let w = view c.look-events.new.pass in
    let has = subst (λ (z : List ℕ). Has z (c.args.slot + 2)) (sym c.requires.pass.1) (inl refl) in
    let top = subst (λ (z : List ℕ). Has z 0) (sym c.requires.pass.1) (inr (inl refl)) in
    let low = subst (λ (z : Start). c.args.slot < z.slots) (sym c.requires.pass.0.start) c.requires.slot in
    let is = subst IsStart (sym c.requires.pass.0.start) c.requires.pass.0.sound in
    look_series v w is c.args.slot c.look-events.result low c.args.cell c.requires.stands has top c.look-events.ensures.looked

pub returns-clause-none : goal.returns-clause-none
returns-clause-none g c =
    let v = view c.args.pass.now in let w = view c.look-events.new.pass in let x = view c.give_series.new.pass in
    let has = subst (λ (z : List ℕ). Has z (c.args.slot + 2)) (sym c.requires.pass.1) (inl refl) in
    let top = subst (λ (z : List ℕ). Has z 0) (sym c.requires.pass.1) (inr (inl refl)) in
    let low = subst (λ (z : Start). c.args.slot < z.slots) (sym c.requires.pass.0.start) c.requires.slot in
    let is = subst IsStart (sym c.requires.pass.0.start) c.requires.pass.0.sound in
    record {
      more = more_gave v w x (c.args.slot + 2) c.give_series.ensures.gave (look_more v w is c.args.slot c.look-events.result low c.args.cell c.requires.stands has top c.look-events.ensures.looked);
      left = (let a = c.look-events.ensures.pass.2 in let b = c.give_series.ensures.pass.2 in omega arith);
      device = device_gave_one w x (c.args.slot + 2) c.give_series.ensures.gave ∙ look_device v w is c.args.slot c.look-events.result low c.args.cell c.requires.stands has top c.look-events.ensures.looked;
    }

pub returns-clause-raised : goal.returns-clause-raised
returns-clause-raised g c =
    let v = view c.args.pass.now in let w = view c.look-events.new.pass in let x = view c.give_series.new.pass in
    let has = subst (λ (z : List ℕ). Has z (c.args.slot + 2)) (sym c.requires.pass.1) (inl refl) in
    let top = subst (λ (z : List ℕ). Has z 0) (sym c.requires.pass.1) (inr (inl refl)) in
    let low = subst (λ (z : Start). c.args.slot < z.slots) (sym c.requires.pass.0.start) c.requires.slot in
    let is = subst IsStart (sym c.requires.pass.0.start) c.requires.pass.0.sound in
    λ window r. raised_stays window w x (ap (λ (z : View). z.start) c.give_series.ensures.gave) (ap (λ (z : View). z.seen) c.give_series.ensures.gave) (device_gave_one w x (c.args.slot + 2) c.give_series.ensures.gave) (look_raised v w is c.args.slot c.look-events.result low c.args.cell c.requires.stands has top c.look-events.ensures.looked window r)

pub returns-clause-below : goal.returns-clause-below
returns-clause-below g c =
    let v = view c.args.pass.now in let w = view c.look-events.new.pass in let x = view c.give_series.new.pass in
    let has = subst (λ (z : List ℕ). Has z (c.args.slot + 2)) (sym c.requires.pass.1) (inl refl) in
    let top = subst (λ (z : List ℕ). Has z 0) (sym c.requires.pass.1) (inr (inl refl)) in
    let low = subst (λ (z : Start). c.args.slot < z.slots) (sym c.requires.pass.0.start) c.requires.slot in
    let is = subst IsStart (sym c.requires.pass.0.start) c.requires.pass.0.sound in
    λ window r closed are. below_stays window (c.args.slot + 1) w x (ap (λ (z : View). z.start) c.give_series.ensures.gave) (ap (λ (z : View). z.seen) c.give_series.ensures.gave) (look_below v w is c.args.slot c.look-events.result low c.args.cell c.requires.stands has top c.look-events.ensures.looked window r closed are)
