use Rattle.std.proofs.Common.{sym, ap, subst, ◌∙◌}
use Rattle.gor_model.specs.declared.start.Start.{Start}
use Rattle.gor_flush.specs.declared.device.Device.{Device}
use Rattle.gor_flush.specs.Opening.{HoldsOn}
use Rattle.gor_store.proofs.OpenShards.{slots_are, opened_as}
use Rattle.gor_store.proofs.shards.open_shard.Goals as goal

pub open_hall-requires-clause-start : goal.open_hall-requires-clause-start
open_hall-requires-clause-start g c = c.in-Ok.ensures.recovered.start c.requires.slots

pub returns-in-Ok-open_hall-clause-start : goal.returns-in-Ok-open_hall-clause-start
returns-in-Ok-open_hall-clause-start g c = record {
  few = c.requires.slots;
  recovered = c.in-Ok.found.1;
  sound = c.in-Ok.ensures.recovered;
  same = c.in-Ok-open_hall.ensures.start ∙ opened_as c.args.slots c.in-Ok.found.1 _ _ _ _ _ _ _ _ _ _ c.in-Ok.ensures.begins.shards_are c.in-Ok.ensures.begins.shard_is c.in-Ok.ensures.begins.opened c.in-Ok.ensures.begins.begun c.in-Ok.ensures.begins.given;
  found = c.in-Ok.ensures.found;
}

pub returns-in-Ok-open_hall-clause-count : goal.returns-in-Ok-open_hall-clause-count
returns-in-Ok-open_hall-clause-count g c = ap (λ (s : Start). s.slots) c.in-Ok-open_hall.ensures.start ∙ slots_are c.args.slots _ _ _ _ _ _

pub returns-in-Err-open_hall-clause-held : goal.returns-in-Err-open_hall-clause-held
returns-in-Err-open_hall-clause-held g c t =
    subst (λ (disk : g.row.D.Denot). HoldsOn c.args.shards c.args.shard (g.D.Disk.view c.args.disk).seen (g.D.Disk.view c.args.disk) (g.D.Disk.view disk))
    (sym (c.close.ensures ∙ ap (λ (d : Device g.row.D.Denot). d.disk) c.in-Err-open_hall.ensures.back)) (c.in-Ok.ensures.held_ok t)
