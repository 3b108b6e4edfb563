use Rattle.std.proofs.Common.{Some}
use Rattle.gor_model.specs.Names.{key_of}
use Rattle.gor_hall.specs.Passes.{view}
use Rattle.gor_steps.specs.declared.dels.DelAnswer.TheVariants as answer
use Rattle.gor_steps.proofs.DelLaws.{del_stopped, del_may, del_quiet, held_all}
use Rattle.gor_steps.proofs.ViewLaws.{all_on}
use Rattle.gor_steps.proofs.dels.stop.Goals as goal

pub mark-number-requires-clause-event : goal.mark-number-requires-clause-event
mark-number-requires-clause-event g c =
    let v = view c.args.pass.now in
    let key = key_of c.args.name.now in
    let all = c.args.all in
    let s = c.requires.stands in
    let told = del_stopped v c.requires.sound c.lane.result key all.directory all.journal s.directory s.journal c.requires.stopped in
    let m = del_may v c.requires.sound c.lane.result key all.directory all.journal s.directory s.journal (Some c.args.slot) answer.Stopped c.requires.there told (held_all v c.args.slot all s) in
    (c.lane.ensures, c.requires.pass.1, m.0, m.1)

pub give_all-requires-clause-stands : goal.give_all-requires-clause-stands
give_all-requires-clause-stands g c =
    let v = view c.args.pass.now in
    let key = key_of c.args.name.now in
    let all = c.args.all in
    let s = c.requires.stands in
    all_on v (view c.mark-number.new.pass) _ c.mark-number.result c.mark-number.ensures.marked
    (del_quiet v c.requires.sound c.lane.result key all.directory all.journal s.directory s.journal (Some c.args.slot) answer.Stopped tt) c.args.slot all s
