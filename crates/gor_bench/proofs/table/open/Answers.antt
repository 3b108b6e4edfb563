use Rattle.gor_bench.proofs.Firsts.{first_stand, four_series_is_start}
use Rattle.gor_bench.proofs.table.open.Goals as goal

pub open-requires-clause-start : goal.open-requires-clause-start
open-requires-clause-start c = four_series_is_start

pub open-requires-clause-stand : goal.open-requires-clause-stand
open-requires-clause-stand c = first_stand c.in_ok-values.values.items c.in_ok-values.ensures
