use Rattle.std.proofs.Common.{ℕ, List, ◌/◌, ◌++◌, take, replicate, false, ap, ◌∙◌}
use Rattle.std.proofs.lemmas.List.{take_rest}
use Rattle.gor_bits.specs.Spelled.{bits_of}
use Rattle.gor_bits.proofs.WordBits.{stands_in_word}
use Rattle.gor_bits.proofs.bytes.piece.Goals as goal

pub returns : goal.returns
returns c =
    let bytes = c.args.bytes.now in
    let seen = c.first_word-word.ensures ∙ ap (λ (xs : List ℕ). take 64 (bits_of xs ++ replicate 64 false)) (take_rest bytes (c.args.at / 8)) in
    stands_in_word bytes c.args.at c.args.count c.first_word-word.result c.requires.within c.requires.one_word seen
