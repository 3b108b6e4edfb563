use Rattle.std.proofs.Common.{ℕ, ◌≡◌, ◌≤◌, length, take, ap, arith, length-take-le}
use Rattle.gor_bits.specs.Spelled.{bits_of}
use Rattle.gor_bits.specs.BitString.{BitString}
use Rattle.gor_bits.proofs.ByteBits.{length-bits_of}
use Rattle.gor_bits.proofs.Packed.{held}
use Rattle.gor_bits.proofs.bits.Bits.truncate.Goals as goal

pub invariant_of-self : goal.invariant_of-self
invariant_of-self c =
    let q = c.self.inside in
    let i = c.self.invariant in
    let all = length-bits_of q.bytes.items in
    let lb : length (take q.len (bits_of q.bytes.items)) ≡ q.len = length-take-le q.len (bits_of q.bytes.items) (omega arith) in
    let seen : length (take q.len (bits_of q.bytes.items)) ≡ length c.args.self.now.bits = ap {B = ℕ} (λ (b : BitString). length b.bits) c.self.view_is in
    let kept : c.args.len ≤ q.len = omega (arith, c.requires) in
    held _ _ _ _ _ c.cut.ensures.packed (length-take-le c.args.len (bits_of q.bytes.items) (omega arith)) (omega arith) (omega (arith, c.cut.ensures.capacity))
