use Rattle.std.proofs.Common.{◌≡◌, map, drop}
use Rattle.gor_gate.specs.Bodies.{listed}
use Rattle.gor_image.specs.Images.{read_keys, read_bodies}
use Rattle.gor_recover.specs.Parts.{key_shown}
use Rattle.gor_recover.specs.KeyReads.{list_read, keys_from, AreKeysAt}
use Rattle.gor_recover.proofs.keys.keys_in.Given as goal

abbrev pub invariant-loop-index : goal.invariant-loop-index
invariant-loop-index l = record {
  limits : AreKeysAt (map key_shown l.list.records.items);
  so_far : read_bodies (read_keys l.sealed) (list_read l.index l.list) (listed (drop l.index l.bodies)) ≡ read_bodies (read_keys l.sealed) (keys_from l.fn.upto) (listed l.bodies);
}
