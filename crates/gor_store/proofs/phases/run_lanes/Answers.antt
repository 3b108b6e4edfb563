use denote.Param.Send.{sendable}
use Rattle.std.proofs.Crossing.{crosses}
use Rattle.gor_hall.proofs.Sharing.{badge_send}
use Rattle.gor_store.proofs.phases.run_lanes.Goals as goal

pub for_each_mut-requires-send-T : goal.for_each_mut-requires-send-T
for_each_mut-requires-send-T g c κs within = search (sendable, crosses, badge_send) depth 40 fits 40000
