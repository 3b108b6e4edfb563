use Rattle.gor_block.proofs.Padding.{padded_apart}
use Rattle.gor_block.proofs.bytes.check_padding.Goals as goal

pub returns-in-Some-clause-found : goal.returns-in-Some-clause-found
returns-in-Some-clause-found c = λ padded. absurd (padded_apart c.args.bits.now.bits c.args.at c.in-Some.at padded c.in-Some.ensures)
