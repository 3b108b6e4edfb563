use Rattle.std.proofs.Common.{◌∙◌, ap}
use Rattle.gor_gate.proofs.FirstBody.{reads_empty}
use Rattle.gor_gate.proofs.gated.Gated.empty.Goals as goal

pub returns-clause-read : goal.returns-clause-read
returns-clause-read c = λ disk is. reads_empty _ disk c.at.ensures.gate c.at.ensures.len (ap disk.seen c.at.ensures.file ∙ is)
