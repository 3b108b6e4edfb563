use Rattle.std.proofs.Common.{◌≡◌, ◌-◌, take, drop, replicate, false}
use Rattle.gor_block.proofs.bytes.first_set.Given as goal

abbrev pub invariant-loop-place : goal.invariant-loop-place
invariant-loop-place l = take (l.place - l.fn.at) (drop l.fn.at l.fn.bits.bits) ≡ replicate (l.place - l.fn.at) false
