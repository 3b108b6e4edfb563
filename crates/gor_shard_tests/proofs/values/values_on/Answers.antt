use Rattle.gor_shard_tests.proofs.values.values_on.Goals as goal

pub values_of-requires-clause-device : goal.values_of-requires-clause-device
values_of-requires-clause-device g c = c.in_ok-device.ensures.stands c.args.slots c.args.recovered c.requires.start
