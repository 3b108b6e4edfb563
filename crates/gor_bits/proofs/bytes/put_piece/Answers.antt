use Rattle.std.proofs.Common.{◌/◌}
use Rattle.std.proofs.lemmas.List.{take_rest}
use Rattle.gor_bits.proofs.WordBits.{written_in_word}
use Rattle.gor_bits.proofs.bytes.put_piece.Goals as goal

pub returns : goal.returns
returns c =
    let bytes = c.args.bytes.now in
    written_in_word bytes _ c.put_word.new.bytes c.args.at c.args.count c.args.value c.first_word.result c.word_with-word.result
    (take_rest bytes (c.args.at / 8)) c.requires.within c.requires.one_word c.first_word.ensures c.word_with-word.ensures c.put_word.ensures
