use Rattle.std.proofs.Common.{◌∙◌}
use Rattle.gor_block.proofs.Padding.{one_bit}
use Rattle.gor_block.proofs.bytes.is_set.Goals as goal

pub returns-in-Some : goal.returns-in-Some
returns-in-Some c = c.in-Some.ensures.value.spelling ∙ one_bit c.in-Some.bit c.in-Some.ensures.value.fits
