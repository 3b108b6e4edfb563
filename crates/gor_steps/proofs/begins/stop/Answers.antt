use Rattle.std.proofs.Common.{None, refl, inr}
use Rattle.gor_model.specs.Names.{key_of}
use Rattle.gor_hall.specs.Passes.{view}
use Rattle.gor_steps.specs.declared.puts.PutAnswer.TheVariants as answer
use Rattle.gor_steps.proofs.BeginLaws.{absent_may, put_quiet, told_stopped, stopped_absent, absent_same}
use Rattle.gor_steps.proofs.DelLaws.{held_all}
use Rattle.gor_steps.proofs.ViewLaws.{all_on}
use Rattle.gor_steps.proofs.begins.stop.Goals as goal

pub mark-number-requires-clause-event : goal.mark-number-requires-clause-event
mark-number-requires-clause-event g c =
    let v = view c.args.pass.now in
    let key = key_of c.args.point.now.name.now in
    let all = c.args.all in
    let s = c.requires.stands in
    let told = told_stopped v c.requires.sound c.lane.result c.args.point.now c.requires.point all.directory s.directory c.requires.absent all.journal s.journal c.requires.stopped in
    let m = absent_may v c.requires.sound c.lane.result c.args.point.now c.requires.point all.directory s.directory c.requires.absent answer.Stopped None told refl (λ o h. held_all v c.args.slot all s o (inr h)) in
    (c.lane.ensures, c.requires.pass.1, m.0, m.1)

pub give_all-requires-clause-stands : goal.give_all-requires-clause-stands
give_all-requires-clause-stands g c =
    let v = view c.args.pass.now in
    let key = key_of c.args.point.now.name.now in
    let all = c.args.all in
    let s = c.requires.stands in
    all_on v (view c.mark-number.new.pass) _ c.mark-number.result c.mark-number.ensures.marked
    (put_quiet v c.requires.sound c.lane.result c.args.point.now c.requires.point all.directory s.directory c.requires.absent None answer.Stopped tt) c.args.slot all s

pub returns-clause-absent : goal.returns-clause-absent
returns-clause-absent g c =
    let v = view c.args.pass.now in let w = view c.mark-number.new.pass in
    (tt, absent_same (key_of c.args.point.now.name.now) w (view c.give_all.new.pass) c.give_all.ensures.none (stopped_absent v w c.lane.result c.mark-number.result c.args.point.now answer.Stopped c.mark-number.ensures.marked))
