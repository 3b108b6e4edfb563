use Rattle.std.proofs.Common.{◌≡◌, ◌+◌, ◌<◌, ℕ, List, sym, ap, subst, inl, inr, refl}
use Rattle.gor_model.specs.declared.start.Start.{Start}
use Rattle.gor_model.specs.Objects.{Has}
use Rattle.gor_hall.specs.Halls.{start_of}
use Rattle.gor_hall.specs.Passes.{view}
use Rattle.gor_steps.proofs.ViewLaws.{series_stays}
use Rattle.gor_steps.proofs.puts.put_at.Goals as goal

pub put_there-requires-clause-stands : goal.put_there-requires-clause-stands
put_there-requires-clause-stands g c =
    let w = view c.take_series-cell.new.pass in let x = view c.take_journal-journal.new.pass in
    let one = c.take_series-cell.ensures in let two = c.take_journal-journal.ensures in
    let has = subst (λ (z : List ℕ). Has z (c.args.slot + 2)) (sym one.took.held) (inl refl) in
    let low = subst (λ (z : Start). c.args.slot < z.slots) (sym one.pass.0.start) c.requires.slot in
    let slots : (start_of c.args.shard.now).slots + 2 ≡ x.start.slots + 2 = ap (λ (z : Start). z.slots + 2) (sym two.pass.0.start) in
    record {
      low = subst (λ (z : Start). c.args.slot < z.slots) (sym two.pass.0.start) c.requires.slot;
      held_series = subst (λ (z : List ℕ). Has z (c.args.slot + 2)) (sym two.took.held) (inr has);
      held_journal = subst (Has x.held) slots (subst (λ (z : List ℕ). Has z ((start_of c.args.shard.now).slots + 2)) (sym two.took.held) (inl refl));
      series = series_stays w x two.took.none.start c.args.slot c.take_series-cell.result low (two.took.shares (c.args.slot + 2) has) one.stands;
      journal = two.stands;
    }
