use Rattle.std.proofs.Common.{◌≡◌, ◌+◌, ◌-◌, ◌%◌, arith}
use Rattle.gor_bits.specs.Spelled.{bits_of}
use Rattle.gor_bits.proofs.WordBits.{stands_twice}
use Rattle.gor_bits.proofs.bytes.number_at.Goals as goal

pub returns : goal.returns
returns c =
    let bits = bits_of c.args.bytes.now in
    let room = 64 - c.args.at % 8 in
    let low = c.args.count - room in
    let whole : room + low ≡ c.args.count = omega arith in
    let both = stands_twice bits c.args.at room low c.piece-high.result c.piece-2.result (omega arith) c.piece-high.ensures c.piece-2.ensures in
    rw whole at both
