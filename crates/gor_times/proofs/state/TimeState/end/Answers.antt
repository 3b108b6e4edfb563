use Rattle.std.proofs.Common.{◌+◌, arith}
use Rattle.std.proofs.lemmas.Nat.{mul-le}
use Rattle.gor_times.proofs.state.TimeState.end.Goals as goal

pub returns-clause-limit : goal.returns-clause-limit
returns-clause-limit c = omega (arith, mul-le (c.self.inside.window + 1) c.window_length.result 4294967296 7200000 (omega arith) c.window_length.ensures.few)
