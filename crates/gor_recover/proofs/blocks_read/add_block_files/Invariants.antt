use Rattle.std.proofs.Common.{◌≡◌, drop}
use Rattle.std.specs.Prelude.{IsTrue}
use Rattle.gor_recover.specs.Openings.{OnlyRead}
use Rattle.gor_recover.proofs.BlocksOn.{BlocksSoFar}
use Rattle.gor_recover.proofs.blocks_read.add_block_files.Given as goal

abbrev pub invariant-loop-window : goal.invariant-loop-window
invariant-loop-window g l = record {
  blocks : BlocksSoFar g.D.Disk.tells (g.D.Disk.view l.initial.disk).seen l.windows (drop l.window-index l.windows) l.initial.series l.series;
  same : IsTrue g.D.Disk.tells → OnlyRead (g.D.Disk.view l.initial.disk) (g.D.Disk.view l.disk);
  cause : g.D.Disk.faults l.disk ≡ g.D.Disk.faults l.initial.disk;
}
