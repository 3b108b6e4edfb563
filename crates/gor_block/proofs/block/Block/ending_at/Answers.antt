use Rattle.std.proofs.Common.{◌≡◌, List, Bool, reverse, take, ap, sym, ◌∙◌, subst}
use Rattle.gor_bits.specs.BitString.{BitString}
use Rattle.gor_model.specs.declared.point.Point.{Point}
use Rattle.gor_block.specs.Decoded.{decoded, IsHeld}
use Rattle.gor_block.proofs.BlockLaws.{held_of_read, found_of_read}
use Rattle.gor_block.proofs.block.Block.ending_at.Goals as goal

pub invariant_of-result : goal.invariant_of-result
invariant_of-result c =
    let h = c.args.header in
    let e = c.args.ending in
    let cut : c.truncate.new.self.bits ≡ take e.at c.args.bits.bits = ap {B = List Bool} (λ (b : BitString). b.bits) c.truncate.ensures in
    subst (λ (xs : List Bool). IsHeld c.args.unit h.window h.count xs e.running) (sym cut) (held_of_read c.args.unit h.window h.count c.args.bits.bits e.at e.running c.requires.limit c.requires.read)

pub returns-clause-points : goal.returns-clause-points
returns-clause-points c =
    let h = c.args.header in
    let e = c.args.ending in
    let cut : c.truncate.new.self.bits ≡ take e.at c.args.bits.bits = ap {B = List Bool} (λ (b : BitString). b.bits) c.truncate.ensures in
    ap {B = List Point} (λ (xs : List Bool). reverse (decoded c.args.unit h.window h.count xs)) cut
    ∙ ap {B = List Point} (λ (xs : List Point). reverse xs) (found_of_read c.args.unit h.window h.count c.args.bits.bits e.at e.running c.requires.limit c.requires.read)
