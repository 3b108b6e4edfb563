use Rattle.gor_bench.proofs.BlockSteps.{is_before_next, on_ok}
use Rattle.gor_bench.proofs.blocks.push_point.Goals as goal

-- src/blocks.rt:56:1
pub returns : goal.returns
returns c = on_ok _ _ c.push.result c.push.ensures.ok (λ is. is_before_next c.args.block.now c.push.new.self _ c.args.window c.args.step _ c.requires.before c.time_of.ensures is)
