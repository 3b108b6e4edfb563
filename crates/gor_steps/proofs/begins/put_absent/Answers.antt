use Rattle.std.proofs.Common.{◌<◌, ℕ, List, sym, subst, inl, refl}
use Rattle.gor_model.specs.declared.start.Start.{Start}
use Rattle.gor_model.specs.Objects.{Has}
use Rattle.gor_hall.specs.Passes.{view}
use Rattle.gor_steps.proofs.BeginLaws.{free_low}
use Rattle.gor_steps.proofs.ViewLaws.{directory_stays}
use Rattle.gor_steps.proofs.begins.put_absent.Goals as goal

pub refuse-requires-clause-index : goal.refuse-requires-clause-index
refuse-requires-clause-index g c =
    let two = c.take_journal-journal.ensures in
    let has = subst (λ (z : List ℕ). Has z 1) (sym c.requires.pass.1) (inl refl) in
    directory_stays (view c.args.pass.now) (view c.take_journal-journal.new.pass) two.took.none.start c.args.directory (two.took.shares 1 has) c.requires.index

pub take_more-all-requires-clause-slot : goal.take_more-all-requires-clause-slot
take_more-all-requires-clause-slot g c =
    subst (λ (z : Start). c.in-Some.slot < z.slots) c.requires.pass.0.start (free_low (view c.args.pass.now) c.requires.sound c.args.directory c.requires.index c.in-Some.slot c.in-Some.ensures.some.0)
