use Rattle.std.proofs.Common.{◌≡◌, ◌+◌, ◌<◌, ◌∷◌, List, Some, sym, ap, subst, ◌∙◌}
use Rattle.std.specs.Prelude.{IfNone, ⊤}
use Rattle.gor_model.specs.declared.start.Start.{Start}
use Rattle.gor_model.specs.declared.start.Move.{Move}
use Rattle.gor_model.specs.declared.start.Move.TheVariants.{Took, Gave}
use Rattle.gor_model.specs.Names.{key_of}
use Rattle.gor_rule.specs.declared.view.View.{View}
use Rattle.gor_hall.specs.Halls.{start_of}
use Rattle.gor_hall.specs.Passes.{view, moves}
use Rattle.gor_steps.specs.Gets.{slot_of}
use Rattle.gor_steps.specs.Puts.{BeginsOrStops}
use Rattle.gor_steps.proofs.FindLaws.{found_low}
use Rattle.gor_steps.proofs.PutMoves.{on_ok, any_ok, on_err, any_err, absent_moves, absent_failed, puts_at, puts_again}
use Rattle.gor_steps.proofs.put_call.put_point.Goals as goal

pub returns-in_default-clause-moves : goal.returns-in_default-clause-moves
returns-in_default-clause-moves g c =
    on_ok c.put_absent.result _ _ c.put_absent.ensures.moves (λ r. absent_moves (start_of c.args.shard.now).slots c.args.point.now c.args.pass.now c.take_directory-directory.new.pass c.put_absent.new.pass r c.take_directory-directory.ensures.took.moves)

pub returns-in_default-clause-failed : goal.returns-in_default-clause-failed
returns-in_default-clause-failed g c =
    on_err c.put_absent.result _ _ c.put_absent.ensures.failed (absent_failed (start_of c.args.shard.now).slots c.args.pass.now c.take_directory-directory.new.pass c.put_absent.new.pass c.take_directory-directory.ensures.took.moves)

pub put_at-requires-clause-slot : goal.put_at-requires-clause-slot
put_at-requires-clause-slot g c =
    let slots = (start_of c.args.shard.now).slots in
    let one = c.take_directory-directory.ensures in
    let found : slot_of c.take_directory-directory.result (key_of c.args.point.now.name.now) ≡ Some c.in-Some.slot = sym c.slot_in.ensures.slot ∙ c.in-Some.is in
    let low = subst (λ (z : Start). c.in-Some.slot < z.slots) one.pass.0.start (found_low (view c.take_directory-directory.new.pass) one.took.sound c.take_directory-directory.result one.stands (key_of c.args.point.now.name.now) c.in-Some.slot found) in
    low

pub returns-in_err-reply-clause-failed : goal.returns-in_err-reply-clause-failed
returns-in_err-reply-clause-failed g c =
    let slots = (start_of c.args.shard.now).slots in
    let one = c.take_directory-directory.ensures in
    let found : slot_of c.take_directory-directory.result (key_of c.args.point.now.name.now) ≡ Some c.in-Some.slot = sym c.slot_in.ensures.slot ∙ c.in-Some.is in
    let low = subst (λ (z : Start). c.in-Some.slot < z.slots) one.pass.0.start (found_low (view c.take_directory-directory.new.pass) one.took.sound c.take_directory-directory.result one.stands (key_of c.args.point.now.name.now) c.in-Some.slot found) in
    let look : moves c.give_directory.new.pass ≡ Gave 1 ∷ Took 1 ∷ moves c.args.pass.now = ap (λ (z : View). z.moves) c.give_directory.ensures.gave ∙ ap (λ (ms : List Move). Gave 1 ∷ ms) one.took.moves in
    any_err c.from_residual.result _ (puts_at slots ⊤ c.args.pass.now c.give_directory.new.pass c.put_at.new.pass c.in-Some.slot low look c.put_at.ensures.moves)

pub returns-in-Some-2-clause-moves : goal.returns-in-Some-2-clause-moves
returns-in-Some-2-clause-moves g c =
    let slots = (start_of c.args.shard.now).slots in
    let one = c.take_directory-directory.ensures in
    let found : slot_of c.take_directory-directory.result (key_of c.args.point.now.name.now) ≡ Some c.in-Some.slot = sym c.slot_in.ensures.slot ∙ c.in-Some.is in
    let low = subst (λ (z : Start). c.in-Some.slot < z.slots) one.pass.0.start (found_low (view c.take_directory-directory.new.pass) one.took.sound c.take_directory-directory.result one.stands (key_of c.args.point.now.name.now) c.in-Some.slot found) in
    let look : moves c.give_directory.new.pass ≡ Gave 1 ∷ Took 1 ∷ moves c.args.pass.now = ap (λ (z : View). z.moves) c.give_directory.ensures.gave ∙ ap (λ (ms : List Move). Gave 1 ∷ ms) one.took.moves in
    puts_at slots _ c.args.pass.now c.give_directory.new.pass c.put_at.new.pass c.in-Some.slot low look c.put_at.ensures.moves

pub returns-in-None-clause-moves : goal.returns-in-None-clause-moves
returns-in-None-clause-moves g c =
    let slots = (start_of c.args.shard.now).slots in
    let one = c.take_directory-directory.ensures in
    let found : slot_of c.take_directory-directory.result (key_of c.args.point.now.name.now) ≡ Some c.in-Some.slot = sym c.slot_in.ensures.slot ∙ c.in-Some.is in
    let low = subst (λ (z : Start). c.in-Some.slot < z.slots) one.pass.0.start (found_low (view c.take_directory-directory.new.pass) one.took.sound c.take_directory-directory.result one.stands (key_of c.args.point.now.name.now) c.in-Some.slot found) in
    let look : moves c.give_directory.new.pass ≡ Gave 1 ∷ Took 1 ∷ moves c.args.pass.now = ap (λ (z : View). z.moves) c.give_directory.ensures.gave ∙ ap (λ (ms : List Move). Gave 1 ∷ ms) one.took.moves in
    let back = subst (λ z. IfNone z (moves c.put_at.new.pass ≡ Gave (c.in-Some.slot + 2) ∷ Took (c.in-Some.slot + 2) ∷ moves c.give_directory.new.pass)) c.in-None.is c.in_ok-reply.ensures.again in
    any_ok c.put_again.result _ (λ r. puts_again slots (BeginsOrStops (key_of c.args.point.now.name.now) c.put_again.new.pass r.answer) c.args.pass.now c.give_directory.new.pass c.put_at.new.pass c.put_again.new.pass c.in-Some.slot low look back c.put_again.ensures.moves)

pub returns-in-None-clause-failed : goal.returns-in-None-clause-failed
returns-in-None-clause-failed g c =
    let slots = (start_of c.args.shard.now).slots in
    let one = c.take_directory-directory.ensures in
    let found : slot_of c.take_directory-directory.result (key_of c.args.point.now.name.now) ≡ Some c.in-Some.slot = sym c.slot_in.ensures.slot ∙ c.in-Some.is in
    let low = subst (λ (z : Start). c.in-Some.slot < z.slots) one.pass.0.start (found_low (view c.take_directory-directory.new.pass) one.took.sound c.take_directory-directory.result one.stands (key_of c.args.point.now.name.now) c.in-Some.slot found) in
    let look : moves c.give_directory.new.pass ≡ Gave 1 ∷ Took 1 ∷ moves c.args.pass.now = ap (λ (z : View). z.moves) c.give_directory.ensures.gave ∙ ap (λ (ms : List Move). Gave 1 ∷ ms) one.took.moves in
    let back = subst (λ z. IfNone z (moves c.put_at.new.pass ≡ Gave (c.in-Some.slot + 2) ∷ Took (c.in-Some.slot + 2) ∷ moves c.give_directory.new.pass)) c.in-None.is c.in_ok-reply.ensures.again in
    any_err c.put_again.result _ (puts_again slots ⊤ c.args.pass.now c.give_directory.new.pass c.put_at.new.pass c.put_again.new.pass c.in-Some.slot low look back c.put_again.ensures.moves)
