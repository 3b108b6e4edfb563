use Rattle.std.proofs.Common.{◌≡◌, ℕ, ◌+◌, ◌<◌, ◌∷◌, [], List, refl, sym, ap, subst, ◌∙◌, inl, inr}
use Rattle.gor_model.specs.declared.start.Start.{Start}
use Rattle.gor_model.specs.Objects.{Has}
use Rattle.gor_hall.specs.Halls.{start_of}
use Rattle.gor_hall.specs.Passes.{view}
use Rattle.gor_hall.specs.Steps.{AllBelow}
use Rattle.gor_steps.proofs.ViewLaws.{directory_stays, series_stays, below_both}
use Rattle.gor_steps.proofs.held.take_more.Goals as goal

pub take_journal-journal-requires : goal.take_journal-journal-requires
take_journal-journal-requires g c =
    let held = c.take_series-cell.ensures.took.held ∙ ap (λ (z : List ℕ). (c.args.slot + 2) ∷ z) c.requires.pass.1 in
    record { pass = (c.take_series-cell.ensures.pass.0, subst (AllBelow ((start_of c.args.shard.now).slots + 2)) (sym held) (below_both (start_of c.args.shard.now).slots c.args.slot c.requires.slot)) }

pub returns-clause-stands : goal.returns-clause-stands
returns-clause-stands g c =
    let v = view c.args.pass.now in let w = view c.take_series-cell.new.pass in let x = view c.take_journal-journal.new.pass in
    let one = c.take_series-cell.ensures in let two = c.take_journal-journal.ensures in
    let has = subst (λ (z : List ℕ). Has z 1) (sym c.requires.pass.1) (inl refl) in
    let has1 = subst (λ (z : List ℕ). Has z 1) (sym one.took.held) (inr has) in
    let has2 = subst (λ (z : List ℕ). Has z (c.args.slot + 2)) (sym one.took.held) (inl refl) in
    let low = subst (λ (z : Start). c.args.slot < z.slots) (sym one.pass.0.start) c.requires.slot in
    let slots : (start_of c.args.shard.now).slots + 2 ≡ x.start.slots + 2 = ap (λ (z : Start). z.slots + 2) (sym two.pass.0.start) in
    record {
      held = two.took.held ∙ (ap (λ (z : List ℕ). ((start_of c.args.shard.now).slots + 2) ∷ z) (one.took.held ∙ ap (λ (z : List ℕ). (c.args.slot + 2) ∷ z) c.requires.pass.1) ∙ ap (λ (n : ℕ). n ∷ (c.args.slot + 2) ∷ 1 ∷ []) slots);
      low = subst (λ (z : Start). c.args.slot < z.slots) (sym two.pass.0.start) c.requires.slot;
      directory = directory_stays w x two.took.none.start c.args.directory (two.took.shares 1 has1) (directory_stays v w one.took.none.start c.args.directory (one.took.shares 1 has) c.requires.stands);
      series = series_stays w x two.took.none.start c.args.slot c.take_series-cell.result low (two.took.shares (c.args.slot + 2) has2) one.stands;
      journal = two.stands;
    }
