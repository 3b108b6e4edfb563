use Rattle.std.proofs.Common.{◌*◌, ap, arith}
use Rattle.std.proofs.lemmas.List.{take_all}
use Rattle.gor_bits.specs.Spelled.{bits_of}
use Rattle.gor_bits.specs.BitString.{BitString}
use Rattle.gor_bits.proofs.ByteBits.{length-bits_of}
use Rattle.gor_bits.proofs.Packed.{packed_whole}
use Rattle.gor_bits.proofs.bits.Bits.of_bytes.Goals as goal

pub invariant_of-result : goal.invariant_of-result
invariant_of-result c =
    let bytes = c.args.bytes in
    let size = bytes.ok in
    record {
      enough = omega (arith, c.len-len.ensures);
      packed = packed_whole bytes.items (c.len-len.result * 8) (omega (arith, c.len-len.ensures));
      limit = omega (arith, c.len-len.ensures, c.requires);
      room = omega (arith, c.len-len.ensures);
    }

pub returns : goal.returns
returns c =
    let bytes = c.args.bytes in
    let size = bytes.ok in
    let all = take_all (c.len-len.result * 8) (bits_of bytes.items) (omega (arith, length-bits_of bytes.items, c.len-len.ensures)) in
    ap {B = BitString} (λ xs. record { bits = xs; spare = 0 }) all
