use Rattle.std.proofs.Common.{All}
use Rattle.gor_merge.specs.Heads.{TimesRise}
use Rattle.gor_merge_tests.proofs.merging.lists_in_turn.Given as goal

abbrev pub invariant-loop-place : goal.invariant-loop-place
invariant-loop-place l = All TimesRise l.lists.items
