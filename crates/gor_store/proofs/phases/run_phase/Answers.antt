use Rattle.std.proofs.lemmas.Result.{IfOk-weaker}
use denote.Param.Send.{sendable}
use Rattle.gor_store.proofs.Crossing.{shard_sync}
use Rattle.gor_store.proofs.PhaseLaws.{ready_for, phase_rests, phase_ran, phase_in_part}
use Rattle.gor_store.proofs.RunLaws.{on_err_always}
use Rattle.gor_store.proofs.phases.run_phase.Goals as goal

pub run_lanes-requires-sync-S : goal.run_lanes-requires-sync-S
run_lanes-requires-sync-S g c κs within = search (sendable, shard_sync, c.type_bounds.send-D) depth 30 fits 20000

pub run_lanes-requires-clause-ready : goal.run_lanes-requires-clause-ready
run_lanes-requires-clause-ready g c κs within i d low = ready_for c.args.shard.now c.args.phase.now c.deref.result.now c.deref.ensures.value c.args.lanes.now c.requires.eight.0 c.requires.eight.1 c.requires.ready i d low

pub returns-clause-rests : goal.returns-clause-rests
returns-clause-rests g c =
    phase_rests c.args.shard.now c.args.phase.now c.deref.result.now c.deref.ensures.value c.args.lanes.now c.requires.eight.0 c.requires.eight.1 c.requires.ready c.args.before c.run_lanes.new.lanes _ c.run_lanes.ensures.length c.run_lanes.ensures.worked c.gather.ensures.passes

pub returns-clause-ok : goal.returns-clause-ok
returns-clause-ok g c =
    IfOk-weaker c.gather.result _ _
    (λ told t. phase_ran c.args.shard.now c.args.phase.now c.deref.result.now c.deref.ensures.value c.args.lanes.now c.requires.eight.0 c.requires.eight.1 c.requires.ready c.args.before c.run_lanes.new.lanes _ c.run_lanes.ensures.length c.run_lanes.ensures.worked c.gather.ensures.passes told.items t)
    c.gather.ensures.told

pub returns-clause-err : goal.returns-clause-err
returns-clause-err g c =
    on_err_always c.gather.result
    (phase_in_part c.args.shard.now c.args.phase.now c.deref.result.now c.deref.ensures.value c.args.lanes.now c.requires.eight.0 c.requires.eight.1 c.requires.ready c.args.before c.run_lanes.new.lanes _ c.run_lanes.ensures.length c.run_lanes.ensures.worked c.gather.ensures.passes)
