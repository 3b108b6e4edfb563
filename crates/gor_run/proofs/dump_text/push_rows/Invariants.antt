use Rattle.std.proofs.Common.{◌≡◌, ◌++◌, take, map}
use Rattle.std.specs.Prelude.{flat_map}
use Rattle.gor_recover.specs.Recovered.{keyed_row}
use Rattle.gor_run.specs.Dumps.{row_line}
use Rattle.gor_run.proofs.dump_text.push_rows.Given as goal

abbrev pub invariant-loop-row : goal.invariant-loop-row
invariant-loop-row l = l.text.items ≡ l.fn.text.items ++ flat_map (row_line 0) (map keyed_row (take l.row-index l.rows))
