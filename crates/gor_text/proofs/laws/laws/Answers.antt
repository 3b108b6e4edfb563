use Rattle.gor_text.proofs.OneTexts.{one_text}
use Rattle.gor_text.proofs.OneHistories.{one_history}
use Rattle.gor_text.proofs.laws.laws.Goals as goal

pub returns : goal.returns
returns c = record { one_text = one_text; one_history = one_history }
