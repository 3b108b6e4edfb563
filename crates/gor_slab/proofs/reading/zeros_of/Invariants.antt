use Rattle.std.proofs.Common.{◌≡◌, ◌+◌, drop}
use Rattle.gor_slab.specs.Reading.{zeros_in}
use Rattle.gor_slab.proofs.reading.zeros_of.Given as goal

abbrev pub invariant-loop-index : goal.invariant-loop-index
invariant-loop-index l = zeros_in (l.at + l.index) (drop l.index l.bytes) ≡ zeros_in l.at l.bytes
