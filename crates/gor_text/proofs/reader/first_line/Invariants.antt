use Rattle.std.proofs.Common.{◌≡◌, take, drop}
use Rattle.gor_text.specs.Grammar.{lines_of}
use Rattle.gor_text.proofs.Words.{onto_front}
use Rattle.gor_text.proofs.reader.first_line.Given as goal

-- the bytes so far hold no LF
abbrev pub invariant-loop-at : goal.invariant-loop-at
invariant-loop-at l = onto_front (take l.at l.text) (lines_of (drop l.at l.text)) ≡ lines_of l.text
