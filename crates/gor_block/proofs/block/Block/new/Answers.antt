use Rattle.std.proofs.Common.{List, Bool, [], reverse, ap, ◌∙◌}
use Rattle.gor_bits.specs.BitString.{BitString}
use Rattle.gor_model.specs.declared.point.Point.{Point}
use Rattle.gor_block.specs.PointBlock.{PointBlock}
use Rattle.gor_block.proofs.BlockLaws.{held_none}
use Rattle.gor_block.proofs.DecodedLaws.{decoded_none}
use Rattle.gor_block.proofs.block.Block.new.Goals as goal

pub invariant_of-result : goal.invariant_of-result
invariant_of-result c = held_none c.args.unit c.args.window c.new.result.bits c.new-2.result c.requires (ap {B = List Bool} (λ (b : BitString). b.bits) c.new.ensures) c.new-2.ensures

pub returns : goal.returns
returns c =
    ap {B = PointBlock} (λ (points : List Point). record { unit = c.args.unit; window = c.args.window; points = reverse points; room = c.new.result.spare }) (decoded_none c.args.unit c.args.window c.new.result.bits)
    ∙ ap {B = PointBlock} (λ (b : BitString). record { unit = c.args.unit; window = c.args.window; points = []; room = b.spare }) c.new.ensures
