use Rattle.gor_hall.specs.Halls.{start_of}
use Rattle.gor_steps.proofs.GetMoves.{no_reads}
use Rattle.gor_steps.proofs.tries.try_get.Goals as goal

pub returns-then-from-to-clause-moves : goal.returns-then-from-to-clause-moves
returns-then-from-to-clause-moves g c = no_reads (start_of c.args.shard.now).slots c.args.pass.now
