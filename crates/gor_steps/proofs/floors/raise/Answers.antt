use Rattle.std.proofs.Common.{◌+◌}
use Rattle.gor_hall.specs.Halls.{start_of}
use Rattle.gor_hall.specs.Passes.{view}
use Rattle.gor_steps.specs.declared.floors.FloorAnswer.TheVariants as answer
use Rattle.gor_steps.proofs.Bounds.{journal_low}
use Rattle.gor_steps.proofs.FinishLaws.{floor_may, raised_wide, raised_device, device_gave}
use Rattle.gor_steps.proofs.floors.raise.Goals as goal

pub mark-number-requires-clause-event : goal.mark-number-requires-clause-event
mark-number-requires-clause-event g c =
    let v = view c.args.pass.now in
    let m = floor_may v c.requires.sound c.lane.result c.args.window c.args.wide c.requires.stands (answer.Floor c.args.floor) c.requires.told c.requires.window in
    (c.lane.ensures, c.requires.pass.1, m.0, m.1)

pub raise_in-wide-requires-clause-numbers : goal.raise_in-wide-requires-clause-numbers
raise_in-wide-requires-clause-numbers g c = journal_low (view c.args.pass.now) c.requires.sound c.args.wide.journal c.requires.stands.journal

pub give_wide-requires-clause-stands : goal.give_wide-requires-clause-stands
give_wide-requires-clause-stands g c =
    raised_wide (view c.args.pass.now) c.requires.sound c.lane.result c.args.window c.args.floor c.args.wide c.raise_in-wide.result c.requires.stands c.requires.told (view c.mark-number.new.pass) c.mark-number.result c.mark-number.ensures.marked
    c.raise_in-wide.ensures.directory c.raise_in-wide.ensures.journal

pub returns-clause-device : goal.returns-clause-device
returns-clause-device g c =
    let w = view c.mark-number.new.pass in let x = view c.give_wide.new.pass in
    raised_device (view c.args.pass.now) c.requires.sound c.lane.result c.args.window c.args.floor c.args.wide c.raise_in-wide.result c.requires.stands c.requires.told w c.mark-number.result c.mark-number.ensures.marked x
    (device_gave w x ((start_of c.args.shard.now).slots + 2) 1 c.give_wide.ensures.gave)
