use Rattle.std.proofs.Common.{List, Bool, ℕ, ◌≡◌, ◌+◌, ◌-◌, ◌++◌, length, take, ap, ◌∙◌, arith, length-append, length-take-le}
use Rattle.gor_bits.specs.Spelled.{bits_of, spelled}
use Rattle.gor_bits.specs.BitString.{BitString}
use Rattle.gor_bits.proofs.ByteBits.{length-bits_of}
use Rattle.gor_bits.proofs.Words.{length-spelled}
use Rattle.gor_bits.proofs.Packed.{held, packed_front}
use Rattle.gor_bits.proofs.bits.Bits.push_reserved.Goals as goal

pub invariant_of-self : goal.invariant_of-self
invariant_of-self c =
    let q = c.self.inside in
    let i = c.self.invariant in
    let bits = take q.len (bits_of q.bytes.items) in
    let piece = spelled c.args.n c.args.value in
    let lb : length bits ≡ q.len = length-take-le q.len (bits_of q.bytes.items) (omega (arith, length-bits_of q.bytes.items)) in
    let seen : q.spare ≡ c.args.self.now.spare = ap {B = ℕ} (λ (b : BitString). b.spare) c.self.view_is in
    let size : length (bits ++ piece) ≡ q.len + c.args.n = omega (arith, length-append bits piece, length-spelled c.args.n c.args.value) in
    let room = c.requires.room in
    held _ _ _ _ _ c.push_number.ensures.packed size (omega arith) (omega (arith, c.push_number.ensures.capacity))

pub returns : goal.returns
returns c =
    let q = c.self.inside in
    let i = c.self.invariant in
    let bits = take q.len (bits_of q.bytes.items) in
    let piece = spelled c.args.n c.args.value in
    let lb : length bits ≡ q.len = length-take-le q.len (bits_of q.bytes.items) (omega (arith, length-bits_of q.bytes.items)) in
    let size : length (bits ++ piece) ≡ q.len + c.args.n = omega (arith, length-append bits piece, length-spelled c.args.n c.args.value) in
    ap {B = BitString} (λ (xs : List Bool). record { bits = xs; spare = q.spare - c.args.n }) (packed_front _ _ (q.len + c.args.n) c.push_number.ensures.packed size)
    ∙ ap {B = BitString} (λ (b : BitString). record { bits = b.bits ++ piece; spare = b.spare - c.args.n }) c.self.view_is
