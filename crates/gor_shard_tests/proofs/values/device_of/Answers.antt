use Rattle.std.proofs.Common.{sym, ◌∙◌}
use Rattle.std.proofs.lemmas.Bool.{false≢true}
use Rattle.gor_shard_tests.proofs.values.device_of.Goals as goal

pub open-requires-clause-pending : goal.open-requires-clause-pending
open-requires-clause-pending g c = λ told. absurd (false≢true (sym c.requires ∙ told))
