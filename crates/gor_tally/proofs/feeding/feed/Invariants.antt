-- So many pages are fed.
use Rattle.std.proofs.Common.{◌-◌, map, length}
use Rattle.gor_tally.proofs.FeedLaws.{FedSoFar}
use Rattle.gor_tally.proofs.feeding.feed.Given as goal

abbrev pub invariant-loop-fed : goal.invariant-loop-fed
invariant-loop-fed g l =
    FedSoFar l.page l.points l.fed (map (λ b. (goal.Tally-dyn g (b.vtable, b.value)).meaning b.value) l.fn.tallies.items)
    (map (λ b. (goal.Tally-dyn g (b.vtable, b.value)).meaning b.value) l.tallies.items)

abbrev pub decreases-loop-fed : goal.decreases-loop-fed
decreases-loop-fed g l = length l.points - l.fed
