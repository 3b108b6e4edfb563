use Rattle.std.proofs.lemmas.Bool.{false≢true}
use Rattle.gorilla.proofs.main.Goals as goal

pub run-outcome-requires-clause-pending : goal.run-outcome-requires-clause-pending
run-outcome-requires-clause-pending c κs within = λ told. absurd (false≢true told)
