use Rattle.std.specs.Prelude.{map}
use Rattle.gor_text.specs.Workloads.{phase_lines}
use Rattle.gor_store.proofs.Sessions.{session_stands, session_is_whole}
use Rattle.gor_run.proofs.ServeEnds.{serve_ends}
use Rattle.gor_run.proofs.serving.serve.Goals as goal

pub returns : goal.returns
returns g c = λ first slots begins.
    serve_ends g.D.Disk.tells g.D.Disk.view g.D.Disk.faults (session_stands g.D.Disk.tells g.D.Disk.view g.D.Disk.faults) (session_is_whole g.D.Disk.tells g.D.Disk.view g.D.Disk.faults)
    c.args.store c.write_phases-written.new.store c.write_phases-written.result c.end-stopped.result.stopped (map phase_lines c.args.phases.now) (g.K.Sink.held c.args.sink.now) (g.K.Sink.held c.write_phases-written.new.sink)
    (g.K.Sink.faults c.args.sink.now) (g.K.Sink.faults c.write_phases-written.new.sink) c.end-stopped.result.disks.items first slots c.requires.taken c.write_phases-written.ensures.same c.write_phases-written.ensures.written c.end-stopped.ensures begins
    c.status_of.result c.status_of.ensures
