use denote.Param.Send.{sendable}
use Rattle.std.proofs.Crossing.{crosses}
use Rattle.gor_hall.proofs.Sharing.{badge_send}
use Rattle.gor_plain.proofs.shares.pass_is_sent.Goals as goal

pub needs_send-requires-send-T : goal.needs_send-requires-send-T
needs_send-requires-send-T g c = search (sendable, crosses, badge_send) depth 40 fits 20000
