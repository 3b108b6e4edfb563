-- So many tallies are written.
use Rattle.std.proofs.Common.{◌≡◌, map, take}
use Rattle.gor_tally.specs.Tallies.{text}
use Rattle.gor_tally.proofs.feeding.close_all.Given as goal

abbrev pub invariant-loop-tally : goal.invariant-loop-tally
invariant-loop-tally g l =
    l.lines.items ≡ map (λ b. text ((goal.Tally-dyn g (b.vtable, b.value)).meaning b.value).rule ((goal.Tally-dyn g (b.vtable, b.value)).meaning b.value).state) (take l.tally-index l.tally-items)
