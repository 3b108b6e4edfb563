use Rattle.std.proofs.Common.{◌<◌, length, arith}
use Rattle.gor_tally.specs.declared.rule.Rule.TheVariants.{Last}
use Rattle.gor_tally.proofs.StepLaws.{step_more}
use Rattle.gor_tally.proofs.latest.LatestTally.take.Goals as goal

pub loop-point-preserved : goal.loop-point-preserved
loop-point-preserved c =
    let there : c.loop-point.point-index < length c.as_slice-point-items.result.now = omega (arith, c.loop-point-test.true) in
    step_more Last _ _ _ _ _ _ c.loop-point.invariant c.later_of.ensures there
