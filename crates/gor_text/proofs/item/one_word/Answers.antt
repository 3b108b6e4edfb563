use Rattle.std.proofs.Common.{sym}
use Rattle.gor_text.proofs.Words.{one_of-more}
use Rattle.gor_text.proofs.item.one_word.Goals as goal

pub returns-in-Some : goal.returns-in-Some
returns-in-Some c = sym (one_of-more c.args.text.now c.in-Some.field-0.now c.first_word.result.0.now (rw c.in-Some.is at c.first_word.ensures))
