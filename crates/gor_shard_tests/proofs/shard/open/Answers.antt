use Rattle.gor_shard_tests.proofs.TwoPasses.{first_rests, second_rests}
use Rattle.gor_shard_tests.proofs.shard.open.Goals as goal

pub returns-in-Some-Some-clause-first : goal.returns-in-Some-Some-clause-first
returns-in-Some-Some-clause-first c =
    first_rests _ _ _ _ _ _ c.in-Some-Some.second c.in-Some-Some.first c.in-Ok.ensures.passes.each c.in-Ok.ensures.count c.pop.ensures.items c.in-Some-Some.is-0 c.pop-2.ensures.items c.in-Some-Some.is-1

pub returns-in-Some-Some-clause-second : goal.returns-in-Some-Some-clause-second
returns-in-Some-Some-clause-second c =
    second_rests _ _ _ _ _ _ c.in-Some-Some.second c.in-Some-Some.first c.in-Ok.ensures.passes.each c.in-Ok.ensures.count c.pop.ensures.items c.in-Some-Some.is-0 c.pop-2.ensures.items c.in-Some-Some.is-1
