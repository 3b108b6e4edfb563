use Rattle.gor_gate.specs.Gates.{eight}
use Rattle.gor_gate.proofs.frames.put_length.Goals as goal

pub returns : goal.returns
unfolding eight
returns c = c.write_u64.ensures
