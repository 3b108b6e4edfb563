use Rattle.gor_merge.specs.Heads.{TimesRise}
use Rattle.gor_merge_tests.proofs.merging.points_of.Given as goal

abbrev pub invariant-loop-time : goal.invariant-loop-time
invariant-loop-time l = TimesRise l.points
