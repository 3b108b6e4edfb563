use Rattle.std.proofs.Common.{All}
use Rattle.gor_merge.specs.Heads.{TimesRise}
use Rattle.gor_merge_tests.proofs.merging.lists_of.Given as goal

abbrev pub invariant-loop-list : goal.invariant-loop-list
invariant-loop-list l = All TimesRise l.lists.items
