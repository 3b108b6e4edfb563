use Rattle.std.proofs.Common.{◌≡◌, ◌+◌, ◌-◌}
use Rattle.std.specs.Prelude.{IsTrue}
use Rattle.std.specs.List.{range_with_len}
use Rattle.gor_recover.specs.Openings.{OnlyRead}
use Rattle.gor_recover.specs.LogReads.{logs_up}
use Rattle.gor_recover.proofs.LogsOn.{LogsSoFar}
use Rattle.gor_recover.proofs.logs_read.add_logs.Given as goal

abbrev pub invariant-loop-log : goal.invariant-loop-log
invariant-loop-log g l = record {
  logs : LogsSoFar g.D.Disk.tells (g.D.Disk.view l.initial.disk).seen l.log (logs_up l.fn.first l.fn.current) (range_with_len l.log (l.fn.current + 1 - l.log)) l.base l.initial.logs.floor l.initial.series l.series l.logs;
  same : IsTrue g.D.Disk.tells → OnlyRead (g.D.Disk.view l.initial.disk) (g.D.Disk.view l.disk);
  cause : g.D.Disk.faults l.disk ≡ g.D.Disk.faults l.initial.disk;
}
