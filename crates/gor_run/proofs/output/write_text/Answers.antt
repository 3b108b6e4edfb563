use Rattle.std.proofs.lemmas.List.{take_rest}
use Rattle.gor_run.proofs.OutputParts.{goes_on}
use Rattle.gor_run.proofs.output.write_text.Goals as goal

pub loop-rest-preserved : goal.loop-rest-preserved
loop-rest-preserved g c =
    rw take_rest
    (goes_on (g.K.Sink.held c.args.sink.now) (g.K.Sink.held c.loop-rest.sink) (g.K.Sink.held c.write.new.self) (g.K.Sink.faults c.args.sink.now) (g.K.Sink.faults c.loop-rest.sink)
    (g.K.Sink.faults c.write.new.self) c.args.text.now c.loop-rest.rest.now c.in_ok-count.count c.loop-rest.invariant c.in_ok-count.ensures.bytes c.in_ok-count.ensures.cause.kept)
