use Rattle.std.proofs.Common.{◌≡◌}
use Rattle.std.specs.Prelude.{IsTrue}
use Rattle.gor_flush.specs.Dropping.{is_log_in}
use Rattle.gor_image.specs.DiskSteps.{Leaves}
use Rattle.gor_flush.proofs.Drops.{LogsGone}
use Rattle.gor_flush.proofs.dropping.clear_logs.Given as goal

abbrev pub invariant-loop-log : goal.invariant-loop-log
invariant-loop-log g l = record {
  touched : IsTrue g.D.Disk.tells → Leaves (is_log_in l.first l.end) (g.D.Disk.view l.fn.disk) (g.D.Disk.view l.disk);
  gone : IsTrue g.D.Disk.tells → LogsGone l.first l.log (g.D.Disk.view l.disk);
  faults : g.D.Disk.faults l.disk ≡ g.D.Disk.faults l.fn.disk;
}
