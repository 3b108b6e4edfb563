use Rattle.std.proofs.Common.{subst}
use Rattle.gor_hall.specs.Halls.{start_of}
use Rattle.gor_steps.specs.Gets.{LooksUp}
use Rattle.gor_steps.proofs.GetMoves.{look_moves, slot_moves, again_moves}
use Rattle.gor_steps.proofs.gets.find.Goals as goal

pub returns-in-Missed-clause-moves : goal.returns-in-Missed-clause-moves
returns-in-Missed-clause-moves g c = look_moves (start_of c.args.shard.now).slots c.args.pass.now c.look_up.new.pass c.look_up.ensures.moves

pub returns-in_err-read-clause-moves : goal.returns-in_err-read-clause-moves
returns-in_err-read-clause-moves g c =
    let at = subst (LooksUp (start_of c.args.shard.now).slots c.args.pass.now c.args.wanted.now c.look_up.new.pass) c.in-At.is c.look_up.ensures.found in
    slot_moves (start_of c.args.shard.now).slots c.args.pass.now c.look_up.new.pass c.read_at.new.pass c.in-At.slot at.0 c.look_up.ensures.moves c.read_at.ensures.moves

pub returns-in-Some-clause-moves : goal.returns-in-Some-clause-moves
returns-in-Some-clause-moves g c =
    let at = subst (LooksUp (start_of c.args.shard.now).slots c.args.pass.now c.args.wanted.now c.look_up.new.pass) c.in-At.is c.look_up.ensures.found in
    slot_moves (start_of c.args.shard.now).slots c.args.pass.now c.look_up.new.pass c.read_at.new.pass c.in-At.slot at.0 c.look_up.ensures.moves c.read_at.ensures.moves

pub returns-in-None-clause-moves : goal.returns-in-None-clause-moves
returns-in-None-clause-moves g c =
    let at = subst (LooksUp (start_of c.args.shard.now).slots c.args.pass.now c.args.wanted.now c.look_up.new.pass) c.in-At.is c.look_up.ensures.found in
    again_moves (start_of c.args.shard.now).slots c.args.pass.now c.look_up.new.pass c.read_at.new.pass c.read_again.new.pass c.in-At.slot at.0 c.look_up.ensures.moves c.read_at.ensures.moves c.read_again.ensures.moves
