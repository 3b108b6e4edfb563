use Rattle.std.proofs.Common.{◌≡◌, ℕ, ◌<◌, List, Some, refl, sym, subst, ◌∙◌, inl}
use Rattle.gor_model.specs.declared.start.Start.{Start}
use Rattle.gor_model.specs.Names.{key_of}
use Rattle.gor_model.specs.Objects.{Has}
use Rattle.gor_hall.specs.Passes.{view}
use Rattle.gor_steps.specs.Gets.{slot_of}
use Rattle.gor_steps.proofs.FindLaws.{found_low}
use Rattle.gor_steps.proofs.ViewLaws.{directory_stays}
use Rattle.gor_steps.proofs.dels.del.Goals as goal

pub take_more-all-requires-clause-slot : goal.take_more-all-requires-clause-slot
take_more-all-requires-clause-slot g c =
    let one = c.take_directory-directory.ensures in
    let found : slot_of c.take_directory-directory.result (key_of c.args.name.now) ≡ Some c.in-Some.slot = sym c.slot_in.ensures.slot ∙ c.in-Some.is in
    subst (λ (z : Start). c.in-Some.slot < z.slots) one.pass.0.start (found_low (view c.take_directory-directory.new.pass) one.took.sound c.take_directory-directory.result one.stands (key_of c.args.name.now) c.in-Some.slot found)

pub del_there-requires-clause-slot : goal.del_there-requires-clause-slot
del_there-requires-clause-slot g c =
    let one = c.take_directory-directory.ensures in
    let found : slot_of c.take_directory-directory.result (key_of c.args.name.now) ≡ Some c.in-Some.slot = sym c.slot_in.ensures.slot ∙ c.in-Some.is in
    subst (λ (z : Start). c.in-Some.slot < z.slots) one.pass.0.start (found_low (view c.take_directory-directory.new.pass) one.took.sound c.take_directory-directory.result one.stands (key_of c.args.name.now) c.in-Some.slot found)

pub refuse-requires-clause-index : goal.refuse-requires-clause-index
refuse-requires-clause-index g c =
    let one = c.take_directory-directory.ensures in
    let two = c.take_journal-journal.ensures in
    let has = subst (λ (z : List ℕ). Has z 1) (sym one.took.held) (inl refl) in
    directory_stays (view c.take_directory-directory.new.pass) (view c.take_journal-journal.new.pass) two.took.none.start c.take_directory-directory.result (two.took.shares 1 has) one.stands
