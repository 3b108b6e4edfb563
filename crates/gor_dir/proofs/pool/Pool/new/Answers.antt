use Rattle.std.proofs.Common.{arith}
use Rattle.gor_dir.proofs.SlotLists.{range-down}
use Rattle.gor_dir.proofs.pool.Pool.new.Goals as goal

pub loop-slot-preserved : goal.loop-slot-preserved
loop-slot-preserved c =
    let some = c.loop-slot-test.true in
    let within = c.loop-slot.auto.slot in
    let grown = c.in_ok-push.ensures.capacity in
    let room = c.loop-slot.invariant.1 in (
      rw c.in_ok-push.ensures.items (range-down c.loop-slot.slot c.args.slots c.loop-slot.pool-inside.slots.items (omega arith) (omega arith) c.loop-slot.invariant.0),
      omega arith,
    )
