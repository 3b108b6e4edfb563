use Rattle.std.proofs.Common.{◌≡◌, ◌<◌, ◌+◌, ◌∷◌, ℕ, refl, sym, ap, subst, ◌∙◌, Some, List, inl, inr}
use Rattle.gor_model.specs.declared.start.Start.{Start}
use Rattle.gor_model.specs.declared.start.Move.{Move}
use Rattle.gor_model.specs.declared.start.Move.TheVariants.{Took, Gave}
use Rattle.gor_model.specs.Names.{key_of}
use Rattle.gor_model.specs.Objects.{Has}
use Rattle.gor_hall.specs.Passes.{view}
use Rattle.gor_steps.specs.Gets.{slot_of}
use Rattle.gor_steps.proofs.FindLaws.{found_low}
use Rattle.gor_steps.proofs.ViewLaws.{directory_stays}
use Rattle.gor_steps.proofs.tries.read_again.Goals as goal

pub try_take_series-requires-clause-slot : goal.try_take_series-requires-clause-slot
try_take_series-requires-clause-slot g c =
    let key = key_of c.args.wanted.now.name.now in
    let i = c.in-Some.directory in
    let one = c.in-Some.ensures.some in
    let found : slot_of i key ≡ Some c.in-Some-slot_in.slot = sym c.slot_in.ensures.slot ∙ c.in-Some-slot_in.is in
    let low = subst (λ (z : Start). c.in-Some-slot_in.slot < z.slots) c.try_take_directory.ensures.pass.0.start (found_low (view c.try_take_directory.new.pass) one.0.sound i one.2 key c.in-Some-slot_in.slot found) in
    low

pub series_object-object-requires : goal.series_object-object-requires
series_object-object-requires g c =
    let key = key_of c.args.wanted.now.name.now in
    let i = c.in-Some.directory in
    let one = c.in-Some.ensures.some in
    let found : slot_of i key ≡ Some c.in-Some-slot_in.slot = sym c.slot_in.ensures.slot ∙ c.in-Some-slot_in.is in
    let low = subst (λ (z : Start). c.in-Some-slot_in.slot < z.slots) c.try_take_directory.ensures.pass.0.start (found_low (view c.try_take_directory.new.pass) one.0.sound i one.2 key c.in-Some-slot_in.slot found) in
    low

pub read_kept-requires-clause-slot : goal.read_kept-requires-clause-slot
read_kept-requires-clause-slot g c =
    let key = key_of c.args.wanted.now.name.now in
    let i = c.in-Some.directory in
    let one = c.in-Some.ensures.some in
    let found : slot_of i key ≡ Some c.in-Some-slot_in.slot = sym c.slot_in.ensures.slot ∙ c.in-Some-slot_in.is in
    let low = subst (λ (z : Start). c.in-Some-slot_in.slot < z.slots) c.try_take_directory.ensures.pass.0.start (found_low (view c.try_take_directory.new.pass) one.0.sound i one.2 key c.in-Some-slot_in.slot found) in
    low

pub read_kept-requires-clause-index : goal.read_kept-requires-clause-index
read_kept-requires-clause-index g c =
    let key = key_of c.args.wanted.now.name.now in
    let i = c.in-Some.directory in
    let one = c.in-Some.ensures.some in
    let found : slot_of i key ≡ Some c.in-Some-slot_in.slot = sym c.slot_in.ensures.slot ∙ c.in-Some-slot_in.is in
    let low = subst (λ (z : Start). c.in-Some-slot_in.slot < z.slots) c.try_take_directory.ensures.pass.0.start (found_low (view c.try_take_directory.new.pass) one.0.sound i one.2 key c.in-Some-slot_in.slot found) in
    let has = subst (λ (z : List ℕ). Has z 1) (sym one.0.held) (inl refl) in
    let two = c.in-Some-try_take_series.ensures.some in
    directory_stays (view c.try_take_directory.new.pass) (view c.try_take_series.new.pass) two.0.none.start i (two.0.shares 1 has) one.2

pub returns-in-Ok-clause-moves : goal.returns-in-Ok-clause-moves
returns-in-Ok-clause-moves g c =
    let key = key_of c.args.wanted.now.name.now in
    let i = c.in-Some.directory in
    let one = c.in-Some.ensures.some in
    let found : slot_of i key ≡ Some c.in-Some-slot_in.slot = sym c.slot_in.ensures.slot ∙ c.in-Some-slot_in.is in
    let low = subst (λ (z : Start). c.in-Some-slot_in.slot < z.slots) c.try_take_directory.ensures.pass.0.start (found_low (view c.try_take_directory.new.pass) one.0.sound i one.2 key c.in-Some-slot_in.slot found) in
    let two = c.in-Some-try_take_series.ensures.some in
    inr (inr (c.in-Some-slot_in.slot, low, c.read_kept.ensures.moves ∙ ap (λ (ms : List Move). Gave 1 ∷ Gave (c.in-Some-slot_in.slot + 2) ∷ ms) (two.0.moves ∙ ap (λ (ms : List Move). Took (c.in-Some-slot_in.slot + 2) ∷ ms) one.0.moves)))

pub returns-in-Err-clause-moves : goal.returns-in-Err-clause-moves
returns-in-Err-clause-moves g c =
    let key = key_of c.args.wanted.now.name.now in
    let i = c.in-Some.directory in
    let one = c.in-Some.ensures.some in
    let found : slot_of i key ≡ Some c.in-Some-slot_in.slot = sym c.slot_in.ensures.slot ∙ c.in-Some-slot_in.is in
    let low = subst (λ (z : Start). c.in-Some-slot_in.slot < z.slots) c.try_take_directory.ensures.pass.0.start (found_low (view c.try_take_directory.new.pass) one.0.sound i one.2 key c.in-Some-slot_in.slot found) in
    let two = c.in-Some-try_take_series.ensures.some in
    inr (inr (c.in-Some-slot_in.slot, low, c.read_kept.ensures.moves ∙ ap (λ (ms : List Move). Gave 1 ∷ Gave (c.in-Some-slot_in.slot + 2) ∷ ms) (two.0.moves ∙ ap (λ (ms : List Move). Took (c.in-Some-slot_in.slot + 2) ∷ ms) one.0.moves)))
