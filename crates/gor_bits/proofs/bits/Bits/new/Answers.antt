use Rattle.std.proofs.Common.{◌≡◌, [], refl, arith}
use Rattle.gor_bits.proofs.Packed.{packed_whole}
use Rattle.gor_bits.proofs.bits.Bits.new.Goals as goal

pub invariant_of-result : goal.invariant_of-result
invariant_of-result c =
    let none : c.new.result.items ≡ [] = c.new.ensures.items in
    rw none (record { enough = omega arith; packed = packed_whole [] 0 refl; limit = omega arith; room = omega arith })
