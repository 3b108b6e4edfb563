use Rattle.std.proofs.Common.{◌≡◌, length, map}
use Rattle.std.specs.List.{AllByRecursion}
use Rattle.gor_model.specs.Windows.{slots_of_a_shard}
use Rattle.gor_recover.specs.Naming.{HasSlot}
use Rattle.gor_recover.specs.Parts.{key_shown}
use Rattle.gor_recover.proofs.NamesOn.{NamesSoFar}
use Rattle.gor_recover.proofs.naming.read_names.Given as goal

abbrev pub invariant-loop-key : goal.invariant-loop-key
invariant-loop-key l = record {
  slots : AllByRecursion (λ k. HasSlot slots_of_a_shard k.it) l.key-iterator.rest.items;
  len : length l.table.seats.items ≡ slots_of_a_shard;
  names : NamesSoFar l.upto l.ranges l.table.seats.items l.table.keys.keys (map key_shown l.fn.keys.items) (map key_shown l.key-iterator.rest.items);
}
