use Rattle.std.proofs.Common.{◌≡◌, drop, map}
use Rattle.std.specs.Prelude.{fold}
use Rattle.gor_recover.specs.Gathering.{each_with_record, each_with_batch}
use Rattle.gor_recover.specs.Parts.{record_shown, batch_shown}
use Rattle.gor_recover.proofs.series.Series.add_batch.Given as goal

abbrev pub invariant-loop-record : goal.invariant-loop-record
invariant-loop-record l = fold (each_with_record l.base l.fn.part.log) l.self (map record_shown (drop l.record-index l.record-items)) ≡ each_with_batch l.base l.initial.self (batch_shown l.fn.part)
