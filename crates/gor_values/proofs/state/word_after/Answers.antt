use Rattle.std.proofs.lemmas.Nat.{xor_lt}
use Rattle.gor_values.proofs.state.word_after.Goals as goal

pub returns-clause-small : goal.returns-clause-small
returns-clause-small c = xor_lt 64 c.args.x c.args.last c.ranges.x.fits c.ranges.last.fits
