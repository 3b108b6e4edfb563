use Rattle.std.proofs.Common.{◌+◌, ◌∙◌, subst, drop, slice_index_or}
use Rattle.gor_disk.specs.declared.disk.FileId.TheVariants.{Block}
use Rattle.gor_recover.proofs.BlocksOn.{BlocksSoFar, one_more}
use Rattle.gor_recover.proofs.Loops.{drop_at}
use Rattle.gor_recover.proofs.OnlyReads.{read_both}
use Rattle.gor_recover.proofs.blocks_read.add_block_files.Goals as goal

pub loop-window-preserved : goal.loop-window-preserved
loop-window-preserved g c = record {
  blocks = one_more g.D.Disk.tells (g.D.Disk.view c.args.disk.now).seen (g.D.Disk.view c.loop-window.disk).seen c.args.windows.now (drop (c.loop-window.window-index + 1) c.args.windows.now)
      (slice_index_or c.args.windows.now c.loop-window.window-index 0) c.args.series.now c.loop-window.series c.add_block_file.new.series
      (λ t. (c.loop-window.invariant.same t).seen (Block (slice_index_or c.args.windows.now c.loop-window.window-index 0)))
      (subst (λ l. BlocksSoFar g.D.Disk.tells (g.D.Disk.view c.args.disk.now).seen c.args.windows.now l c.args.series.now c.loop-window.series) (drop_at c.args.windows.now c.loop-window.window-index 0 c.loop-window-test.true) c.loop-window.invariant.blocks)
      c.in_default.ensures.ok;
  same = λ t. read_both (g.D.Disk.view c.args.disk.now) (g.D.Disk.view c.loop-window.disk) (g.D.Disk.view c.add_block_file.new.disk) (c.loop-window.invariant.same t) (c.add_block_file.ensures.same t);
  cause = c.in_default.ensures.cause ∙ c.loop-window.invariant.cause;
}
