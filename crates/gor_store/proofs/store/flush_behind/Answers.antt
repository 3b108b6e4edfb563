use Rattle.std.proofs.Common.{◌∙◌, sym, subst}
use Rattle.gor_store.specs.Stores.{FlushedBehind}
use Rattle.gor_store.proofs.ClosingLaws.{flushed_behind, rests_behind}
use Rattle.gor_store.proofs.store.flush_behind.Goals as goal

pub returns-clause-rests : goal.returns-clause-rests
returns-clause-rests g c =
    let f = c.flush.ensures.pass in
    rests_behind c.args.shard.now c.args.pass.now c.wait_for.new.pass c.flush.new.pass c.flush.result c.wait_for.ensures.rests f.0.pass f.0.lane f.0.most f.1 c.flush.ensures.events

pub returns-clause-flushed : goal.returns-clause-flushed
returns-clause-flushed g c =
    let w = c.wait_for.ensures in
    subst (FlushedBehind c.args.before c.args.pass.now c.flush.new.pass) (sym c.stopped.ensures)
    (flushed_behind c.args.before c.args.pass.now c.wait_for.new.pass c.flush.new.pass w.rests.lane c.flush.ensures.pass.0.lane w.rests.rests.own w.long w.none c.flush.result (w.rests.lane ∙ c.requires.lane) c.flush.ensures.events)
