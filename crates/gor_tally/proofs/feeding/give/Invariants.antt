-- The tallies so far took the page.
use Rattle.std.proofs.Common.{◌≡◌, map}
use Rattle.gor_tally.specs.Feeding.{given_to}
use Rattle.gor_tally.proofs.feeding.give.Given as goal

abbrev pub invariant-loop-at : goal.invariant-loop-at
invariant-loop-at g l =
    map (λ b. (goal.Tally-dyn g (b.vtable, b.value)).meaning b.value) l.tallies.items
    ≡ given_to l.at l.page (map (λ b. (goal.Tally-dyn g (b.vtable, b.value)).meaning b.value) l.fn.tallies.items)
