use Rattle.std.proofs.Common.{ℕ, List, ◌++◌, length, drop, replicate, ap, ◌∙◌, arith}
use Rattle.std.specs.Int.{from_be_bytes, w64}
use Rattle.gor_bits.proofs.ByteBits.{first_eight, front_word, padded_word}
use Rattle.gor_bits.proofs.bytes.first_word.Goals as goal

pub returns-in-len8-up : goal.returns-in-len8-up
returns-in-len8-up c =
    let bytes = c.args.bytes.now in
    front_word bytes c.from_be_bytes.result c.in-len8-up.len_at_least (λ i. (c.type_inv.bytes i).fits)
    (c.from_be_bytes.ensures ∙ ap (from_be_bytes w64) (first_eight bytes c.in-len8-up.len_at_least))

pub returns : goal.returns
returns c =
    let bytes = c.args.bytes.now in
    padded_word bytes c.from_be_bytes-2.result (omega arith) (λ i. (c.type_inv.bytes i).fits)
    (c.from_be_bytes-2.ensures ∙ ap (λ (xs : List ℕ). from_be_bytes w64 (xs ++ drop (length bytes) (replicate 8 0))) c.copy_from_slice.ensures.after)
