use Rattle.std.proofs.Common.{◌≡◌, ℕ, ◌+◌, ◌∷◌, [], List, refl, sym, ap, subst, ◌∙◌, inl, inr}
use Rattle.gor_model.specs.declared.start.Start.{Start}
use Rattle.gor_model.specs.Objects.{Has}
use Rattle.gor_hall.specs.Halls.{start_of}
use Rattle.gor_hall.specs.Passes.{view}
use Rattle.gor_steps.proofs.FinishLaws.{device_stays}
use Rattle.gor_steps.proofs.ViewLaws.{directory_stays}
use Rattle.gor_steps.proofs.wide.take_wide.Goals as goal

pub returns-clause-stands : goal.returns-clause-stands
returns-clause-stands g c =
    let w = view c.take_directory_over-directory.new.pass in let x = view c.take_journal-journal.new.pass in
    let one = c.take_directory_over-directory.ensures in let two = c.take_journal-journal.ensures in
    let has = subst (λ (z : List ℕ). Has z 1) (sym one.took.held) (inl refl) in
    let slots : (start_of c.args.shard.now).slots + 2 ≡ x.start.slots + 2 = ap (λ (z : Start). z.slots + 2) (sym two.pass.0.start) in
    record {
      held = two.took.held ∙ (ap (λ (z : List ℕ). ((start_of c.args.shard.now).slots + 2) ∷ z) (one.took.held ∙ ap (λ (z : List ℕ). 1 ∷ z) c.requires.pass.1) ∙ ap (λ (n : ℕ). n ∷ 1 ∷ 0 ∷ []) slots);
      directory = directory_stays w x two.took.none.start c.take_directory_over-directory.result (two.took.shares 1 has) one.stands;
      journal = two.stands;
    }

pub returns-clause-device : goal.returns-clause-device
returns-clause-device g c =
    let v = view c.args.pass.now in let w = view c.take_directory_over-directory.new.pass in let x = view c.take_journal-journal.new.pass in
    let one = c.take_directory_over-directory.ensures in let two = c.take_journal-journal.ensures in
    let has = subst (λ (z : List ℕ). Has z 0) (sym c.requires.pass.1) (inl refl) in
    let has1 = subst (λ (z : List ℕ). Has z 0) (sym one.took.held) (inr has) in
    device_stays w x two.took.none.start (two.took.shares 0 has1) ∙ device_stays v w one.took.none.start (one.took.shares 0 has)
