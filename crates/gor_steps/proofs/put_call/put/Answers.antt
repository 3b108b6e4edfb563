use Rattle.std.proofs.Common.{ℕ, List, subst}
use Rattle.std.specs.Prelude.{⊤}
use Rattle.gor_model.specs.Names.{key_of}
use Rattle.gor_hall.specs.Halls.{start_of}
use Rattle.gor_steps.specs.Moves.{AddsMoves, PutsApart}
use Rattle.gor_steps.specs.Puts.{BeginsOrStops}
use Rattle.gor_steps.proofs.PutMoves.{no_puts}
use Rattle.gor_steps.proofs.put_call.put.Goals as goal

pub returns-then-time-gt-GREATEST_TIME-clause-failed : goal.returns-then-time-gt-GREATEST_TIME-clause-failed
returns-then-time-gt-GREATEST_TIME-clause-failed g c = no_puts (start_of c.args.shard.now).slots ⊤ c.args.pass.now

pub returns-in-Ok-clause-moves : goal.returns-in-Ok-clause-moves
returns-in-Ok-clause-moves g c =
    subst (λ (name : List ℕ). AddsMoves c.args.pass.now c.put_point.new.pass (PutsApart (start_of c.args.shard.now).slots (BeginsOrStops (key_of name) c.put_point.new.pass c.in-Ok.reply.answer))) c.new_point-point.ensures.point.0 c.in-Ok.ensures.moves
