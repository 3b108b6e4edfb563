use Rattle.std.proofs.Common.{sym, ◌∙◌, subst}
use Rattle.gor_recover.specs.StoreReads.{IsBasedOn}
use Rattle.gor_image.specs.Images.{read_files}
use Rattle.gor_recover.specs.Openings.{IsMet}
use Rattle.gor_image.specs.MarkLists.{AreMarksOrNone}
use Rattle.gor_recover.specs.Gathers.{GathersAll}
use Rattle.gor_recover.proofs.Opened.{is_store, opened, not_opened, calm_counts, store_stops}
use Rattle.gor_recover.proofs.recovering.open_store.Goals as goal

pub gather-requires : goal.gather-requires
gather-requires g c = record {
  order = (c.based_on-base.ensures c.requires.home.shards c.requires.home.shard (subst (AreMarksOrNone c.requires.home.shards c.requires.home.shard) (sym c.deref.ensures.value) c.requires.home.are)).order;
}

pub restore-requires : goal.restore-requires
restore-requires g c =
    let based = c.based_on-base.ensures c.requires.home.shards c.requires.home.shard (subst (AreMarksOrNone c.requires.home.shards c.requires.home.shard) (sym c.deref.ensures.value) c.requires.home.are) in
    let based_there = subst (λ l. IsBasedOn l c.based_on-base.result) (c.deref.ensures.value ∙ sym c.deref-2.ensures.value) based in
    record { store = is_store g.D.Disk.tells (g.D.Disk.view c.args.disk.now).seen c.deref-2.result.now c.based_on-base.result c.in-Ok.store based_there (c.in-Ok.ensures.ok based_there) }

pub returns-in-Ok-clause-ok : goal.returns-in-Ok-clause-ok
returns-in-Ok-clause-ok g c =
    let based = subst (λ l. IsBasedOn l c.based_on-base.result) c.deref.ensures.value (c.based_on-base.ensures c.requires.home.shards c.requires.home.shard (subst (AreMarksOrNone c.requires.home.shards c.requires.home.shard) (sym c.deref.ensures.value) c.requires.home.are)) in
    let gathers = subst (λ l. GathersAll g.D.Disk.tells (g.D.Disk.view c.args.disk.now).seen l c.based_on-base.result c.in-Ok.store) c.deref-2.ensures.value c.in-Ok.ensures.ok in
    opened g.D.Disk.tells (g.D.Disk.view c.args.disk.now).seen c.args.marks.items c.based_on-base.result c.in-Ok.store based (gathers based) c.args.slots c.restore.result c.restore.ensures.ok

pub returns-in-Ok-clause-err : goal.returns-in-Ok-clause-err
returns-in-Ok-clause-err g c = λ t.
    let based = subst (λ l. IsBasedOn l c.based_on-base.result) c.deref.ensures.value (c.based_on-base.ensures c.requires.home.shards c.requires.home.shard (subst (AreMarksOrNone c.requires.home.shards c.requires.home.shard) (sym c.deref.ensures.value) c.requires.home.are)) in
    let gathers = subst (λ l. GathersAll g.D.Disk.tells (g.D.Disk.view c.args.disk.now).seen l c.based_on-base.result c.in-Ok.store) c.deref-2.ensures.value c.in-Ok.ensures.ok in
    not_opened g.D.Disk.tells (g.D.Disk.view c.args.disk.now).seen c.args.marks.items c.based_on-base.result c.in-Ok.store based (gathers based) c.args.slots t c.restore.result c.restore.ensures.err

pub returns-in-Ok-clause-cause : goal.returns-in-Ok-clause-cause
returns-in-Ok-clause-cause g c = calm_counts c.restore.result (g.D.Disk.faults c.args.disk.now) (g.D.Disk.faults c.gather.new.disk) c.restore.ensures.calm c.in-Ok.ensures.cause

pub returns-in-Err-clause-err : goal.returns-in-Err-clause-err
returns-in-Err-clause-err g c = λ t.
    let based = c.based_on-base.ensures c.requires.home.shards c.requires.home.shard (subst (AreMarksOrNone c.requires.home.shards c.requires.home.shard) (sym c.deref.ensures.value) c.requires.home.are) in
    let based_there = subst (λ l. IsBasedOn l c.based_on-base.result) (c.deref.ensures.value ∙ sym c.deref-2.ensures.value) based in
    store_stops (g.D.Disk.view c.args.disk.now).seen c.args.marks.items c.args.slots c.in-Err.fault (subst (λ l. IsMet (read_files (g.D.Disk.view c.args.disk.now).seen l) c.in-Err.fault) c.deref-2.ensures.value (c.in-Err.ensures.err t based_there))
