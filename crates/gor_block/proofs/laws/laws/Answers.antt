use Rattle.std.proofs.Common.{◌≡◌, List, length, reverse, ap, sym, ◌∙◌}
use Rattle.std.proofs.lemmas.List.{length-reverse, reverse-reverse}
use Rattle.gor_model.specs.declared.point.Point.{Point}
use Rattle.gor_block.specs.Decoded.{decoded}
use Rattle.gor_block.proofs.Finding.{begins_as, begins_whole}
use Rattle.gor_block.proofs.DecodedLaws.{decoded_is}
use Rattle.gor_block.proofs.ChainLaws.{chain_of}
use Rattle.gor_block.proofs.BytesLaws.{bytes_one, block_one}
use Rattle.gor_block.proofs.laws.laws.Goals as goal

pub returns-clause-points : goal.returns-clause-points
returns-clause-points c = λ u w p q bits small less same code other.
    let found = decoded_is u w (reverse p) bits (chain_of u w p code.inside small code.rising) (begins_as _ _ bits code.coded (begins_whole bits)) in
    let again = decoded_is u w (reverse q) bits (chain_of u w q other.inside less other.rising) (begins_as _ _ bits other.coded (begins_whole bits)) in
    let n : length (reverse p) ≡ length (reverse q) = length-reverse p ∙ same ∙ sym (length-reverse q) in
    let turned : reverse p ≡ reverse q = sym found ∙ ap (λ k. decoded u w k bits) n ∙ again in
    sym (reverse-reverse p) ∙ ap {B = List Point} (λ (xs : List Point). reverse xs) turned ∙ reverse-reverse q

pub returns-clause-bytes : goal.returns-clause-bytes
returns-clause-bytes c = bytes_one

pub returns-clause-block : goal.returns-clause-block
returns-clause-block c = block_one
