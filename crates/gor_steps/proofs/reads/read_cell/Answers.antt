use Rattle.std.proofs.Common.{◌<◌, ℕ, ◌+◌, List, refl, sym, ap, ◌∙◌, subst, Some}
use Rattle.gor_model.specs.declared.start.Start.{Start}
use Rattle.gor_model.specs.Objects.{Has}
use Rattle.gor_rule.specs.declared.view.View.{View}
use Rattle.gor_hall.specs.Passes.{view, lane_of, made}
use Rattle.gor_steps.specs.Gets.{found_event}
use Rattle.gor_steps.specs.Views.{HasEvent, KeepsShares}
use Rattle.gor_steps.proofs.ViewLaws.{has_event}
use Rattle.gor_steps.proofs.ReadLaws.{found_may, found_keeps}
use Rattle.gor_steps.proofs.PauseLaws.{paused_from}
use Rattle.gor_steps.proofs.reads.read_cell.Goals as goal

pub mark-number-requires-clause-event : goal.mark-number-requires-clause-event
mark-number-requires-clause-event g c =
    let low = subst (λ (z : Start). c.args.slot < z.slots) (sym c.requires.pass.0.start) c.requires.slot in
    let m = found_may (view c.args.pass.now) c.requires.sound c.lane-lane.result c.args.wanted.now c.args.slot low c.args.cell.now c.in_ok-copied.copied c.requires.stands c.requires.holds c.in_ok-copied.ensures c.requires.pass.2 in
    (c.lane-lane.ensures, c.requires.pass.1, m.0, m.1)

pub pause_in-requires-clause-held : goal.pause_in-requires-clause-held
pause_in-requires-clause-held g c = subst (λ (held : List ℕ). Has held (c.args.slot + 2)) (sym (ap (λ (z : View). z.held) c.mark-number.ensures.marked.2)) c.requires.pass.2

pub pause_in-requires-clause-event : goal.pause_in-requires-clause-event
pause_in-requires-clause-event g c =
    let h = has_event (view c.args.pass.now) (view c.mark-number.new.pass) _ c.mark-number.result c.mark-number.ensures.marked in let stays = c.mark-number.ensures.pass in record {
      event = found_event c.lane-lane.result c.args.slot c.args.wanted.now c.in_ok-copied.copied;
      before = h.before;
      earlier = made c.args.pass.now;
      ends = h.seen;
      number = h.number;
      mine = h.mine;
      lane = stays.0.lane ∙ ap Some (stays.1 ∙ sym c.lane-lane.ensures);
      of = refl;
    }

pub returns-clause-read : goal.returns-clause-read
returns-clause-read g c = record {
  slot = Some c.args.slot;
  event = subst (λ (v : View). HasEvent (view c.args.pass.now) c.mark-number.result (found_event (lane_of c.args.pass.now) c.args.slot c.args.wanted.now c.in_ok-copied.copied) v) (sym c.pause_in.ensures.same)
      (subst (λ (lane : ℕ). HasEvent (view c.args.pass.now) c.mark-number.result (found_event lane c.args.slot c.args.wanted.now c.in_ok-copied.copied) (view c.mark-number.new.pass)) c.lane-lane.ensures
      (has_event (view c.args.pass.now) (view c.mark-number.new.pass) _ c.mark-number.result c.mark-number.ensures.marked));
  left = ap (λ (k : ℕ). k + 1) c.pause_in.ensures.pass.2 ∙ c.mark-number.ensures.pass.2;
}

pub returns-clause-paused : goal.returns-clause-paused
returns-clause-paused g c =
    paused_from (λ lane n. g.P.Pause.called c.args.pause.now lane c.args.place n) c.args.pass.now c.mark-number.new.pass c.pause_in.new.pass c.mark-number.ensures.pass.1 c.mark-number.ensures.pass.3 c.mark-number.result c.pause_in.ensures.paused

pub returns-clause-shares : goal.returns-clause-shares
returns-clause-shares g c =
    let low = subst (λ (z : Start). c.args.slot < z.slots) (sym c.requires.pass.0.start) c.requires.slot in
    subst (λ (v : View). KeepsShares (view c.args.pass.now) v) (sym c.pause_in.ensures.same)
    (found_keeps (view c.args.pass.now) c.requires.sound c.lane-lane.result c.args.wanted.now c.args.slot low c.args.cell.now c.in_ok-copied.copied c.requires.stands c.requires.holds c.in_ok-copied.ensures
    c.mark-number.result (view c.mark-number.new.pass) c.mark-number.ensures.marked)
