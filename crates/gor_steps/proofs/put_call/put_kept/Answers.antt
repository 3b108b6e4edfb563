use Rattle.std.proofs.Common.{◌≡◌, ◌+◌, ◌<◌, ◌∷◌, [], ℕ, List, Some, sym, ap, subst, ◌∙◌, inl, inr, refl}
use Rattle.gor_model.specs.declared.start.Start.{Start}
use Rattle.gor_model.specs.declared.start.Move.{Move}
use Rattle.gor_model.specs.declared.start.Move.TheVariants.{Gave}
use Rattle.gor_model.specs.Names.{key_of}
use Rattle.gor_model.specs.Objects.{Has}
use Rattle.gor_dir.specs.Listings.{Listing}
use Rattle.gor_rule.specs.declared.view.View.{View}
use Rattle.gor_rule.specs.Plays.{without}
use Rattle.gor_hall.specs.Halls.{start_of}
use Rattle.gor_hall.specs.Passes.{view}
use Rattle.gor_steps.specs.Gets.{slot_of}
use Rattle.gor_steps.proofs.FindLaws.{found_low, found_holds}
use Rattle.gor_steps.proofs.ViewLaws.{directory_stays, all_given}
use Rattle.gor_steps.proofs.put_call.put_kept.Goals as goal

pub take_more-directory-requires-clause-slot : goal.take_more-directory-requires-clause-slot
take_more-directory-requires-clause-slot g c =
    subst (λ (z : Start). c.args.slot < z.slots) c.requires.pass.0.start (found_low (view c.args.pass.now) c.requires.sound c.args.directory c.requires.index (key_of c.args.point.now.name.now) c.args.slot c.requires.found)

pub put_there-reply-requires-clause-holds : goal.put_there-reply-requires-clause-holds
put_there-reply-requires-clause-holds g c =
    let all = c.take_more-directory.result in let s = c.take_more-directory.ensures.stands in
    let found = subst (λ (i : Listing). slot_of i (key_of c.args.point.now.name.now) ≡ Some c.args.slot) (sym c.take_more-directory.ensures.same) c.requires.found in
    found_holds (view c.take_more-directory.new.pass) c.take_more-directory.ensures.sound all.directory s.directory (key_of c.args.point.now.name.now) c.args.slot found all.cell s.series

pub give_directory-requires-clause-stands : goal.give_directory-requires-clause-stands
give_directory-requires-clause-stands g c =
    let w = view c.take_more-directory.new.pass in let x = view c.put_there-reply.new.pass in
    let s = c.take_more-directory.ensures.stands in let put = c.put_there-reply.ensures in
    let has = subst (λ (z : List ℕ). Has z 1) (sym s.held) (inr (inr (inl refl))) in
    directory_stays w x (put.pass.0.start ∙ sym c.take_more-directory.ensures.pass.0.start) c.take_more-directory.result.directory (put.index has) s.directory

pub returns-clause-pass : goal.returns-clause-pass
returns-clause-pass g c =
    let w = view c.take_more-directory.new.pass in
    let s = c.take_more-directory.ensures.stands in let put = c.put_there-reply.ensures in
    let start = c.take_more-directory.ensures.pass.0.start in
    let low = subst (λ (z : Start). c.args.slot < z.slots) start s.low in
    let held : w.held ≡ ((start_of c.args.shard.now).slots + 2) ∷ (c.args.slot + 2) ∷ 1 ∷ [] = s.held ∙ ap (λ (z : Start). (z.slots + 2) ∷ (c.args.slot + 2) ∷ 1 ∷ []) start in
    let one = put.pass.2 ∙ (ap (λ (z : List ℕ). without (c.args.slot + 2) (without ((start_of c.args.shard.now).slots + 2) z)) held ∙ all_given (start_of c.args.shard.now).slots c.args.slot low) in
    (c.give_directory.ensures.pass.0, ap (λ (z : View). z.held) c.give_directory.ensures.gave ∙ ap (without 1) one, c.give_directory.ensures.pass.1 ∙ (put.pass.1 ∙ c.take_more-directory.ensures.pass.1))

pub returns-clause-moves : goal.returns-clause-moves
returns-clause-moves g c =
    let s = c.take_more-directory.ensures.stands in
    let low = subst (λ (z : Start). c.args.slot < z.slots) c.take_more-directory.ensures.pass.0.start s.low in
    let slots = (start_of c.args.shard.now).slots in
    (c.args.slot, low, ap (λ (z : View). z.moves) c.give_directory.ensures.gave ∙ (ap (λ (ms : List Move). Gave 1 ∷ ms) c.put_there-reply.ensures.moves ∙ ap (λ (ms : List Move). Gave 1 ∷ Gave (c.args.slot + 2) ∷ Gave (slots + 2) ∷ ms) c.take_more-directory.ensures.moves))
