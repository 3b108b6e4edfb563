use Rattle.std.proofs.Common.{Some, arith}
use Rattle.gor_model.specs.Names.{key_of}
use Rattle.gor_hall.specs.Passes.{view}
use Rattle.gor_steps.specs.declared.dels.DelAnswer.TheVariants as answer
use Rattle.gor_steps.proofs.Bounds.{journal_low}
use Rattle.gor_steps.proofs.DelLaws.{del_gone, del_may, held_all, ended_all}
use Rattle.gor_steps.proofs.FindLaws.{found_holds}
use Rattle.gor_steps.proofs.ViewLaws.{holds_live}
use Rattle.gor_steps.proofs.dels.end.Goals as goal

pub mark-number-requires-clause-event : goal.mark-number-requires-clause-event
mark-number-requires-clause-event g c =
    let v = view c.args.pass.now in
    let key = key_of c.args.name.now in
    let all = c.args.all in
    let s = c.requires.stands in
    let told = del_gone v c.requires.sound c.lane.result key all.directory all.journal s.directory s.journal c.requires.running c.args.slot c.requires.there in
    let m = del_may v c.requires.sound c.lane.result key all.directory all.journal s.directory s.journal (Some c.args.slot) answer.Gone c.requires.there told (held_all v c.args.slot all s) in
    (c.lane.ensures, c.requires.pass.1, m.0, m.1)

pub end_in-all-requires-clause-slot : goal.end_in-all-requires-clause-slot
end_in-all-requires-clause-slot g c = let low = c.requires.slot in let few = c.requires.pass.0.sound.slots in omega arith

pub end_in-all-requires-clause-live : goal.end_in-all-requires-clause-live
end_in-all-requires-clause-live g c =
    let v = view c.args.pass.now in
    let key = key_of c.args.name.now in
    let all = c.args.all in
    let s = c.requires.stands in
    holds_live key all.cell.live (found_holds v c.requires.sound all.directory s.directory key c.args.slot c.requires.there all.cell s.series)

pub end_in-all-requires-clause-numbers : goal.end_in-all-requires-clause-numbers
end_in-all-requires-clause-numbers g c = journal_low (view c.args.pass.now) c.requires.sound c.args.all.journal c.requires.stands.journal

pub give_all-requires-clause-stands : goal.give_all-requires-clause-stands
give_all-requires-clause-stands g c =
    let v = view c.args.pass.now in
    let key = key_of c.args.name.now in
    let all = c.args.all in
    let s = c.requires.stands in
    ended_all v (view c.mark-number.new.pass) c.requires.sound c.lane.result c.args.slot c.mark-number.result key all c.end_in-all.result s c.requires.there c.end_in-all.ensures c.mark-number.ensures.marked
