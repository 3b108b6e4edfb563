use Rattle.std.proofs.Common.{◌≡◌, drop}
use Rattle.gor_text.specs.Grammar.{value_from}
use Rattle.gor_text.proofs.fields.value.Given as goal

abbrev pub invariant-loop-byte : goal.invariant-loop-byte
invariant-loop-byte l = value_from l.base l.number (drop l.byte-index l.text) ≡ value_from l.base 0 l.text
