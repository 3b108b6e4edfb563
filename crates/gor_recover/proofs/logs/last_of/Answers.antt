use Rattle.gor_recover.specs.Parts.{batch_shown}
use Rattle.gor_recover.proofs.Heights.{last_is}
use Rattle.gor_recover.proofs.logs.last_of.Goals as goal

pub returns-in-Some : goal.returns-in-Some
returns-in-Some c = last_is batch_shown c.args.before c.args.parts.now c.in-Some.part.now c.in-Some.ensures.value
