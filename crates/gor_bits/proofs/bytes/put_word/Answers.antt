use Rattle.std.proofs.Common.{take, ap, ◌∙◌}
use Rattle.gor_bits.proofs.ByteBits.{written_word}
use Rattle.gor_bits.proofs.bytes.put_word.Goals as goal

pub returns : goal.returns
returns c =
    written_word c.args.bytes.now c.args.word c.min-count.result c.copy_from_slice.new.self c.min-count.ensures
    (c.copy_from_slice.ensures.after ∙ ap (take c.min-count.result) c.to_be_bytes.ensures)
