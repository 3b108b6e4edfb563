use Rattle.std.proofs.Common.{◌≡◌, take}
use Rattle.std.specs.Prelude.{flat_map}
use Rattle.gor_text.specs.Spelling.{answer_line}
use Rattle.gor_run.proofs.serving.text_of.Given as goal

abbrev pub invariant-loop-answer : goal.invariant-loop-answer
invariant-loop-answer l = l.text.items ≡ flat_map answer_line (take l.answer-index l.told)
