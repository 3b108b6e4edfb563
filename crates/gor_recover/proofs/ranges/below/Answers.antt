use Rattle.std.proofs.Common.{◌+◌, ◌-◌, ◌/◌, arith}
use Rattle.gor_recover.proofs.Covers.{below_middle, all_from}
use Rattle.gor_recover.proofs.ranges.below.Goals as goal

pub loop-low-preserved-then-ranges-middle : goal.loop-low-preserved-then-ranges-middle
loop-low-preserved-then-ranges-middle c = record {
  order = let test = c.loop-low-test.true in omega arith;
  within = c.loop-low.invariant.within;
  below = below_middle c.args.number c.args.ranges.now (c.loop-low.low + (c.loop-low.high - c.loop-low.low) / 2) _ c.requires.rise
      (let test = c.loop-low-test.true in let within = c.loop-low.invariant.within in omega arith) c.if-ranges-middle.true;
  beyond = c.loop-low.invariant.beyond;
}

pub loop-low-preserved : goal.loop-low-preserved
loop-low-preserved c = record {
  order = omega arith;
  within = let test = c.loop-low-test.true in let within = c.loop-low.invariant.within in omega arith;
  below = c.loop-low.invariant.below;
  beyond = all_from 0 c.args.number c.args.ranges.now (c.loop-low.low + (c.loop-low.high - c.loop-low.low) / 2) _ c.requires.rise
      (let test = c.loop-low-test.true in let within = c.loop-low.invariant.within in omega arith) c.if-ranges-middle.false;
}
