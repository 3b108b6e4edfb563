use Rattle.std.proofs.Common.{◌≡◌, drop}
use Rattle.std.specs.Prelude.{filter}
use Rattle.gor_dir.specs.Pools.{is_apart}
use Rattle.gor_dir.proofs.pool.place_of.Given as goal

abbrev pub invariant-loop-at : goal.invariant-loop-at
invariant-loop-at l = filter (is_apart l.slot) (drop l.at l.slots) ≡ drop l.at l.slots
