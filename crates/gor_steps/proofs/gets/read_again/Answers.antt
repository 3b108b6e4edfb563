use Rattle.std.proofs.Common.{◌≡◌, ◌<◌, ◌+◌, ◌∷◌, ℕ, refl, sym, ap, subst, ◌∙◌, Some, List, inl, inr}
use Rattle.gor_model.specs.declared.start.Start.{Start}
use Rattle.gor_model.specs.declared.start.Move.{Move}
use Rattle.gor_model.specs.declared.start.Move.TheVariants.{Took, Gave}
use Rattle.gor_model.specs.Names.{key_of}
use Rattle.gor_model.specs.Objects.{Has}
use Rattle.gor_hall.specs.Passes.{view}
use Rattle.gor_steps.specs.Gets.{slot_of}
use Rattle.gor_steps.proofs.FindLaws.{found_low}
use Rattle.gor_steps.proofs.ViewLaws.{directory_stays}
use Rattle.gor_steps.proofs.gets.read_again.Goals as goal

pub take_series-cell-requires-clause-slot : goal.take_series-cell-requires-clause-slot
take_series-cell-requires-clause-slot g c =
    let key = key_of c.args.wanted.now.name.now in
    let i = c.take_directory-directory.result in
    let one = c.take_directory-directory.ensures in
    let found : slot_of i key ≡ Some c.in-Some.slot = sym c.slot_in.ensures.slot ∙ c.in-Some.is in
    let low = subst (λ (z : Start). c.in-Some.slot < z.slots) one.pass.0.start (found_low (view c.take_directory-directory.new.pass) one.took.sound i one.stands key c.in-Some.slot found) in
    low

pub read_kept-requires-clause-slot : goal.read_kept-requires-clause-slot
read_kept-requires-clause-slot g c =
    let key = key_of c.args.wanted.now.name.now in
    let i = c.take_directory-directory.result in
    let one = c.take_directory-directory.ensures in
    let found : slot_of i key ≡ Some c.in-Some.slot = sym c.slot_in.ensures.slot ∙ c.in-Some.is in
    let low = subst (λ (z : Start). c.in-Some.slot < z.slots) one.pass.0.start (found_low (view c.take_directory-directory.new.pass) one.took.sound i one.stands key c.in-Some.slot found) in
    low

pub read_kept-requires-clause-index : goal.read_kept-requires-clause-index
read_kept-requires-clause-index g c =
    let key = key_of c.args.wanted.now.name.now in
    let i = c.take_directory-directory.result in
    let one = c.take_directory-directory.ensures in
    let found : slot_of i key ≡ Some c.in-Some.slot = sym c.slot_in.ensures.slot ∙ c.in-Some.is in
    let low = subst (λ (z : Start). c.in-Some.slot < z.slots) one.pass.0.start (found_low (view c.take_directory-directory.new.pass) one.took.sound i one.stands key c.in-Some.slot found) in
    let has = subst (λ (z : List ℕ). Has z 1) (sym one.took.held) (inl refl) in
    let two = c.take_series-cell.ensures in
    directory_stays (view c.take_directory-directory.new.pass) (view c.take_series-cell.new.pass) two.took.none.start i (two.took.shares 1 has) one.stands

pub returns-in_err-read-clause-moves : goal.returns-in_err-read-clause-moves
returns-in_err-read-clause-moves g c =
    let key = key_of c.args.wanted.now.name.now in
    let i = c.take_directory-directory.result in
    let one = c.take_directory-directory.ensures in
    let found : slot_of i key ≡ Some c.in-Some.slot = sym c.slot_in.ensures.slot ∙ c.in-Some.is in
    let low = subst (λ (z : Start). c.in-Some.slot < z.slots) one.pass.0.start (found_low (view c.take_directory-directory.new.pass) one.took.sound i one.stands key c.in-Some.slot found) in
    inr (c.in-Some.slot, low, c.read_kept.ensures.moves ∙ ap (λ (ms : List Move). Gave 1 ∷ Gave (c.in-Some.slot + 2) ∷ ms) (c.take_series-cell.ensures.took.moves ∙ ap (λ (ms : List Move). Took (c.in-Some.slot + 2) ∷ ms) one.took.moves))

pub returns-clause-moves : goal.returns-clause-moves
returns-clause-moves g c =
    let key = key_of c.args.wanted.now.name.now in
    let i = c.take_directory-directory.result in
    let one = c.take_directory-directory.ensures in
    let found : slot_of i key ≡ Some c.in-Some.slot = sym c.slot_in.ensures.slot ∙ c.in-Some.is in
    let low = subst (λ (z : Start). c.in-Some.slot < z.slots) one.pass.0.start (found_low (view c.take_directory-directory.new.pass) one.took.sound i one.stands key c.in-Some.slot found) in
    inr (c.in-Some.slot, low, c.read_kept.ensures.moves ∙ ap (λ (ms : List Move). Gave 1 ∷ Gave (c.in-Some.slot + 2) ∷ ms) (c.take_series-cell.ensures.took.moves ∙ ap (λ (ms : List Move). Took (c.in-Some.slot + 2) ∷ ms) one.took.moves))
