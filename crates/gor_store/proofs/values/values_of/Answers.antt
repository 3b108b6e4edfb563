use Rattle.gor_store.proofs.InOrder.{all_stand, all_there}
use Rattle.gor_store.proofs.values.values_of.Goals as goal

pub returns-in-Ok-parts_of-clause-len : goal.returns-in-Ok-parts_of-clause-len
returns-in-Ok-parts_of-clause-len g c = all_there c.args.slots c.args.recovered g.D.Disk.tells g.D.Disk.view g.D.Disk.faults c.args.device c.in-Ok-parts_of.parts c.in-Ok-parts_of.ensures c.with_device.result.items c.with_device.ensures

pub returns-in-Ok-parts_of-clause-stand : goal.returns-in-Ok-parts_of-clause-stand
returns-in-Ok-parts_of-clause-stand g c =
    all_stand c.args.slots c.args.recovered g.D.Disk.tells g.D.Disk.view g.D.Disk.faults c.args.device c.requires.start c.in-Ok-parts_of.parts c.requires.device c.in-Ok-parts_of.ensures
    c.with_device.result.items c.with_device.ensures
