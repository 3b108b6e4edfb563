use Rattle.std.proofs.Common.{◌<◌, length, arith}
use Rattle.gor_tally.specs.declared.rule.Rule.TheVariants.{Least}
use Rattle.gor_tally.proofs.StepLaws.{step_more}
use Rattle.gor_tally.proofs.lowest.LowestTally.take.Goals as goal

pub loop-point-preserved : goal.loop-point-preserved
loop-point-preserved c =
    let there : c.loop-point.point-index < length c.as_slice-point-items.result.now = omega (arith, c.loop-point-test.true) in
    step_more Least _ _ _ _ _ _ c.loop-point.invariant c.lesser_of.ensures there
