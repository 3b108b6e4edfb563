use Rattle.std.proofs.Common.{sym, subst}
use Rattle.std.specs.List.{IsDistinct}
use Rattle.std.specs.Map.{keys_of}
use Rattle.std.specs.Str.{bytes_eq}
use Rattle.gor_dir.specs.Listings.{keyed}
use Rattle.gor_dir.proofs.EntryLaws.{rows_of, no_entries}
use Rattle.gor_dir.proofs.rows.Rows.new.Goals as goal

pub invariant_of-result : goal.invariant_of-result
invariant_of-result c = subst (λ es. IsDistinct bytes_eq (keys_of (keyed (rows_of es)))) (sym c.new.ensures.empty) no_entries
