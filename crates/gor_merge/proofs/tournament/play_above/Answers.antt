use Rattle.gor_merge.proofs.RoundLaws.{step_up, halved}
use Rattle.gor_merge.proofs.tournament.play_above.Goals as goal

pub loop-node-preserved : goal.loop-node-preserved
loop-node-preserved c =
    let i = c.loop-node.invariant in
    step_up _ _ _ _ _ _ _ c.play.ensures.others (halved c.loop-node.node) c.loop-node-test.true i.within c.play.ensures.played i.counted i.heads i.played
