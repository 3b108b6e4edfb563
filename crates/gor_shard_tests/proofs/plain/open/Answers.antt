use Rattle.gor_plain.proofs.Firsts.{one_series_is_start}
use Rattle.gor_shard_tests.proofs.plain.open.Goals as goal

pub open-requires-clause-start : goal.open-requires-clause-start
open-requires-clause-start c = one_series_is_start
