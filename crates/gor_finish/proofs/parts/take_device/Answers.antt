use Rattle.gor_hall.specs.Passes.{view}
use Rattle.gor_finish.proofs.TakenParts.{taken_device}
use Rattle.gor_finish.proofs.parts.take_device.Goals as goal

pub into_device-requires : goal.into_device-requires
into_device-requires g c = taken_device g.D.Disk.tells g.D.Disk.view g.D.Disk.faults (view c.args.pass.now) (view c.take.new.pass) c.take.result c.take.ensures.taken
