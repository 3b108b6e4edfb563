use Rattle.std.proofs.Common.{◌≡◌, drop, map}
use Rattle.gor_recover.specs.Gathering.{each_with_batches}
use Rattle.gor_recover.specs.Parts.{batch_shown}
use Rattle.gor_recover.proofs.series.Series.add_batches.Given as goal

abbrev pub invariant-loop-part : goal.invariant-loop-part
invariant-loop-part l = each_with_batches l.base l.self (map batch_shown (drop l.part-index l.parts)) ≡ each_with_batches l.base l.initial.self (map batch_shown l.parts)
