use Rattle.gor_run.proofs.ServeEnds.{has_ended}
use Rattle.gor_run.proofs.serving.end.Goals as goal

pub returns : goal.returns
returns g c =
    has_ended g.D.Disk.tells g.D.Disk.view g.D.Disk.faults c.args.store c.flush_all-stopped.new.self c.flush_all-stopped.result c.close-disks.result.items c.flush_all-stopped.ensures.same c.flush_all-stopped.ensures.flushed c.close-disks.ensures
