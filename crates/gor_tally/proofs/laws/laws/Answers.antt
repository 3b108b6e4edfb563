use Rattle.gor_tally.proofs.StepLaws.{step-append, counts_points}
use Rattle.gor_tally.proofs.laws.laws.Goals as goal

pub returns-clause-parts : goal.returns-clause-parts
returns-clause-parts c = step-append

pub returns-clause-counts : goal.returns-clause-counts
returns-clause-counts c = counts_points
