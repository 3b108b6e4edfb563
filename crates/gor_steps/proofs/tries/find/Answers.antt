use Rattle.std.proofs.Common.{subst}
use Rattle.gor_hall.specs.Halls.{start_of}
use Rattle.gor_steps.specs.Tries.{TriesLookUp}
use Rattle.gor_steps.proofs.GetMoves.{same_moves, look_moves, slot_moves, slot_moves_or, again_moves_or}
use Rattle.gor_steps.proofs.tries.find.Goals as goal

pub returns-in_err-number-clause-moves : goal.returns-in_err-number-clause-moves
returns-in_err-number-clause-moves g c = same_moves (start_of c.args.shard.now).slots c.args.pass.now c.look_up.new.pass c.in_err-number.ensures.held.1

pub returns-in-Missed-clause-moves : goal.returns-in-Missed-clause-moves
returns-in-Missed-clause-moves g c =
    let at = subst (TriesLookUp (start_of c.args.shard.now).slots c.args.pass.now c.args.wanted.now c.look_up.new.pass) c.in-Missed.is c.in_ok-number.ensures.found in
    look_moves (start_of c.args.shard.now).slots c.args.pass.now c.look_up.new.pass at.1

pub returns-in_err-read-clause-moves : goal.returns-in_err-read-clause-moves
returns-in_err-read-clause-moves g c =
    let at = subst (TriesLookUp (start_of c.args.shard.now).slots c.args.pass.now c.args.wanted.now c.look_up.new.pass) c.in-At.is c.in_ok-number.ensures.found in
    slot_moves_or (start_of c.args.shard.now).slots c.args.pass.now c.look_up.new.pass c.read_at.new.pass c.in-At.slot at.0 at.3 c.read_at.ensures.fewer

pub returns-in-Some-clause-moves : goal.returns-in-Some-clause-moves
returns-in-Some-clause-moves g c =
    let at = subst (TriesLookUp (start_of c.args.shard.now).slots c.args.pass.now c.args.wanted.now c.look_up.new.pass) c.in-At.is c.in_ok-number.ensures.found in
    slot_moves (start_of c.args.shard.now).slots c.args.pass.now c.look_up.new.pass c.read_at.new.pass c.in-At.slot at.0 at.3 c.in_ok-read.ensures.moves

pub returns-in-None-clause-moves : goal.returns-in-None-clause-moves
returns-in-None-clause-moves g c =
    let at = subst (TriesLookUp (start_of c.args.shard.now).slots c.args.pass.now c.args.wanted.now c.look_up.new.pass) c.in-At.is c.in_ok-number.ensures.found in
    again_moves_or (start_of c.args.shard.now).slots c.args.pass.now c.look_up.new.pass c.read_at.new.pass c.read_again.new.pass c.in-At.slot at.0 at.3 c.in_ok-read.ensures.moves c.read_again.ensures.moves
