use Rattle.std.proofs.Common.{◌≡◌, ◌≤◌, ◌-◌, reverse}
use Rattle.std.specs.List.{range_with_len}
use Rattle.std.specs.Prelude.{vec_capacity}
use Rattle.gor_dir.proofs.pool.Pool.new.Given as goal

abbrev pub invariant-loop-slot : goal.invariant-loop-slot
invariant-loop-slot l = (reverse l.pool-inside.slots.items ≡ range_with_len l.slot (l.fn.slots - l.slot)) × (l.fn.slots ≤ vec_capacity l.pool-inside.slots)
