use Rattle.std.proofs.Common.{◌≡◌, ◌++◌, map}
use Rattle.gor_dir.specs.Listings.{row_shown}
use Rattle.gor_dir.specs.Rows.{row_of}
use Rattle.gor_dir.proofs.rows.Rows.copies.Given as goal

abbrev pub invariant-loop-spelling : goal.invariant-loop-spelling
invariant-loop-spelling l = map row_shown l.rows.items ++ map row_of l.spelling-iterator ≡ l.fn.self.rows
