use Rattle.std.proofs.Common.{true, refl}
use Rattle.gor_shard_tests.proofs.Starts.{no_rows_start}
use Rattle.gor_shard_tests.proofs.rows.no_rows.Goals as goal

pub returns : goal.returns
returns c = no_rows_start (record { fresh = true; floor = 0; next = 1; marks = c.new.result; tops = c.new-2.result; rows = c.new-3.result }) refl refl c.new-3.ensures.items
