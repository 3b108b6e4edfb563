use Rattle.std.proofs.Common.{◌≡◌, ◌+◌, ◌-◌, ap, ◌∙◌, arith}
use Rattle.gor_bits.specs.Spelled.{spelled}
use Rattle.gor_bits.proofs.Words.{word_with}
use Rattle.gor_bits.proofs.WordBits.{word_is}
use Rattle.gor_bits.proofs.bytes.word_with.Goals as goal

pub returns : goal.returns
returns c =
    let w = c.args.word in
    let skip = c.args.skip in
    let n = c.args.count in
    let low = 64 - skip - n in
    let whole : skip + n + low ≡ 64 = omega arith in
    let is = word_is w skip n low c.args.value c.unbounded_shr-above.result c.unbounded_shl.result whole c.requires.some c.ranges.word.fits c.requires.fits c.unbounded_shr-above.ensures c.unbounded_shl.ensures in
    ap (spelled 64) is ∙ word_with w skip n low c.args.value whole c.requires.fits
