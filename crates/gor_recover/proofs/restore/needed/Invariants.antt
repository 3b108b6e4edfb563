use Rattle.std.proofs.Common.{◌≡◌, ◌+◌, ◌<◌, drop, map}
use Rattle.std.specs.List.{AllByRecursion}
use Rattle.gor_model.specs.PlainMap.{greatest}
use Rattle.gor_model.specs.Windows.{slots_of_a_shard}
use Rattle.gor_recover.proofs.restore.needed.Given as goal

abbrev pub invariant-loop-row : goal.invariant-loop-row
invariant-loop-row l = record {
  low : AllByRecursion (λ r. r.slot < slots_of_a_shard) (drop l.row-index l.rows);
  left : greatest l.needed (map (λ r. r.slot + 1) (drop l.row-index l.rows)) ≡ greatest 0 (map (λ r. r.slot + 1) l.rows);
}
