use Rattle.std.proofs.Common.{map, sym, ap, ◌∙◌, subst, length}
use Rattle.std.specs.List.{AllByRecursion}
use Rattle.gor_model.specs.Windows.{slots_of_a_shard}
use Rattle.gor_recover.specs.Naming.{HasSlot}
use Rattle.gor_recover.specs.Parts.{key_shown}
use Rattle.gor_recover.proofs.NamesOn.{no_names_yet, are_named, NamesSoFar, still_met, none_left, all_seats}
use Rattle.gor_recover.proofs.naming.read_names.Goals as goal

pub loop-key-init : goal.loop-key-init
loop-key-init c = record {
  slots = subst (λ l. AllByRecursion (λ k. HasSlot slots_of_a_shard k.it) l) (sym c.into_iter-key-iterator.ensures.into_iter_gives.0) c.requires.slots;
  len = ap length c.in-Ok.ensures.seats ∙ all_seats slots_of_a_shard;
  names = subst (λ l. NamesSoFar c.args.upto c.args.ranges.now c.in-Ok.table.seats.items c.in-Ok.table.keys.keys (map key_shown c.args.keys.items) (map key_shown l)) (sym c.into_iter-key-iterator.ensures.into_iter_gives.0)
      (no_names_yet c.args.upto c.args.ranges.now slots_of_a_shard c.in-Ok.table.seats.items c.in-Ok.table.keys.keys (map key_shown c.args.keys.items) c.in-Ok.ensures.seats c.in-Ok.ensures.keys);
}

pub returns-in-Err-clause-err : goal.returns-in-Err-clause-err
returns-in-Err-clause-err c = still_met c.args.list c.args.upto c.args.ranges.now c.loop-key.table.seats.items c.loop-key.table.keys.keys (map key_shown c.args.keys.items) (map key_shown c.next.new.self.rest.items) (key_shown c.in-Some.key) c.in-Err.fault
    (subst (λ l. NamesSoFar c.args.upto c.args.ranges.now c.loop-key.table.seats.items c.loop-key.table.keys.keys (map key_shown c.args.keys.items) (map key_shown l)) c.in-Some.ensures.steps.0 c.loop-key.invariant.names)
    c.in-Err.ensures.err

pub returns-in-Ok-seated-clause-ok : goal.returns-in-Ok-seated-clause-ok
returns-in-Ok-seated-clause-ok c =
    are_named c.args.upto c.args.ranges.now c.loop-key.table.seats.items c.loop-key.table.keys.keys (map key_shown c.args.keys.items) c.in-Ok-seated.rows.items
    (subst (λ l. NamesSoFar c.args.upto c.args.ranges.now c.loop-key.table.seats.items c.loop-key.table.keys.keys (map key_shown c.args.keys.items) (map key_shown l))
    (none_left c.loop-key.key-iterator.rest.items (sym c.loop-key.key-iterator.rest.ok.0 ∙ c.in-None.ensures.steps.0)) c.loop-key.invariant.names)
    c.loop-key.invariant.len c.in-Ok-seated.ensures
