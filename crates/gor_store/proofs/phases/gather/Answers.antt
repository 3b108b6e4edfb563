use Rattle.std.proofs.Common.{◌<◌, length, arith}
use Rattle.gor_store.proofs.Gathering.{pass_kept, one_more}
use Rattle.gor_store.proofs.phases.gather.Goals as goal

pub returns-in_err-hand_over-clause-passes : goal.returns-in_err-hand_over-clause-passes
returns-in_err-hand_over-clause-passes c =
    let low : c.loop-lane.lane-index < length c.loop-lane.lanes = let t = c.loop-lane-test.true in let a = c.loop-lane.auto in omega (arith, t, a) in
    pass_kept c.args.lanes.now c.loop-lane.lane-index c.loop-lane.lanes c.loop-lane.told.items c.lane-item.result c.hand_over.new.self low c.loop-lane.invariant c.hand_over.ensures.pass

pub loop-lane-preserved : goal.loop-lane-preserved
loop-lane-preserved c =
    let low : c.loop-lane.lane-index < length c.loop-lane.lanes = let t = c.loop-lane-test.true in let a = c.loop-lane.auto in omega (arith, t, a) in
    one_more c.args.lanes.now c.loop-lane.lane-index c.loop-lane.lanes c.loop-lane.told.items c.lane-item.result c.hand_over.new.self low c.loop-lane.invariant c.hand_over.ensures.pass c.hand_over.new.told.items c.in_ok-hand_over.ensures.whole c.in_ok-hand_over.ensures.told
