use Rattle.std.proofs.Common.{arith}
use Rattle.std.proofs.lemmas.List.{length-map}
use Rattle.gor_text.proofs.Lanes.{lane_grows}
use Rattle.gor_text.proofs.workload.Phase.add.Goals as goal

pub returns : goal.returns
returns c =
    lane_grows (λ lane. lane.items) c.args.self.now.lanes.items c.args.lane c.push.new.self c.index_mut-lines.result.now c.args.line
    (omega (arith, length-map c.args.self.now.lanes.items (λ lane. lane.items)))
    (rw (← c.index_mut-lines.ensures.value) c.in_ok-push.ensures.items)
