use Rattle.std.proofs.Common.{arith}
use Rattle.gor_merge.proofs.RoundLaws.{step_down}
use Rattle.gor_merge.proofs.tournament.play_all.Goals as goal

pub loop-node-preserved : goal.loop-node-preserved
loop-node-preserved c =
    let i = c.loop-node.invariant in
    step_down _ _ _ _ _ _ _ c.play.ensures.others (omega (arith, c.loop-node-test.true)) i.within c.play.ensures.played i.counted i.heads i.played
