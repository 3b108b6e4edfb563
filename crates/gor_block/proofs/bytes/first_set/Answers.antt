use Rattle.std.proofs.Common.{List, Bool, [], ◌∷◌, ap, ◌∙◌}
use Rattle.gor_block.proofs.Padding.{zeros_more}
use Rattle.gor_block.proofs.bytes.first_set.Goals as goal

pub loop-place-preserved : goal.loop-place-preserved
loop-place-preserved c =
    zeros_more c.args.bits.now.bits c.args.at c.loop-place.place c.loop-place.auto.place c.loop-place.invariant (c.is_set.ensures ∙ ap {B = List Bool} (λ (b : Bool). b ∷ []) c.if-is_set.false)
