-- Behind the heads so far come those of the other lists.
use Rattle.std.proofs.Common.{◌≡◌, ◌++◌, drop}
use Rattle.gor_merge.specs.Heads.{heads_from}
use Rattle.gor_merge.proofs.merging.heads_of.Given as goal

abbrev pub invariant-loop-place : goal.invariant-loop-place
invariant-loop-place l = l.heads.items ++ heads_from l.place (drop l.place l.lists) ≡ heads_from 0 l.lists
