use Rattle.gor_shard_tests.specs.Passes.{IsAtHand}
use Rattle.gor_shard_tests.proofs.steps.first_wrong.Given as goal

abbrev pub invariant-loop-place : goal.invariant-loop-place
invariant-loop-place g l = IsAtHand l.shard l.pass
