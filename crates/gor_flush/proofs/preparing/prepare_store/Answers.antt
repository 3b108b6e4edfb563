use Rattle.std.proofs.Common.{rules, refl}
use Rattle.gor_flush.proofs.Prepares.{store_holds_on, store_holds_yet, store_opened, store_whole}
use Rattle.gor_flush.proofs.Steps.{goes_still}
use Rattle.gor_flush.proofs.preparing.prepare_store.Goals as goal

pub returns-in_default-clause-goes : goal.returns-in_default-clause-goes
returns-in_default-clause-goes g c = λ t. goes_still _

pub returns-in_default-clause-held : goal.returns-in_default-clause-held
returns-in_default-clause-held g c = λ t. store_holds_yet c.args.shards c.args.shard _ c.args.marks.now c.args.tops.now (g.D.Disk.view c.args.disk.now) c.requires.some refl (c.requires.pending t) (c.requires.store t)

pub returns-in_default-copy_tops-clause-goes : goal.returns-in_default-copy_tops-clause-goes
returns-in_default-copy_tops-clause-goes g c = λ t. goes_still _

pub returns-in_default-copy_tops-clause-held : goal.returns-in_default-copy_tops-clause-held
returns-in_default-copy_tops-clause-held g c = λ t. store_holds_yet c.args.shards c.args.shard _ c.args.marks.now c.args.tops.now (g.D.Disk.view c.args.disk.now) c.requires.some refl (c.requires.pending t) (c.requires.store t)

pub returns-in_err-files-clause-held : goal.returns-in_err-files-clause-held
returns-in_err-files-clause-held g c = λ t. store_holds_on c.args.shards c.args.shard _ c.args.marks.now c.args.tops.now (g.D.Disk.view c.args.disk.now) (g.D.Disk.view c.reopen.new.disk) c.requires.some refl (c.requires.pending t) (c.requires.store t) (c.reopen.ensures.kept t)

pub returns-clause-held : goal.returns-clause-held
returns-clause-held g c = λ t. store_holds_on c.args.shards c.args.shard _ c.args.marks.now c.args.tops.now (g.D.Disk.view c.args.disk.now) (g.D.Disk.view c.reopen.new.disk) c.requires.some refl (c.requires.pending t) (c.requires.store t) (c.reopen.ensures.kept t)

pub returns-in_err-files-clause-undamaged : goal.returns-in_err-files-clause-undamaged
returns-in_err-files-clause-undamaged g c = λ t.
    let none = c.in_err-files.ensures.whole t (store_whole c.args.shards c.args.shard _ c.args.marks.now c.args.tops.now c.requires.some (c.requires.store t)) in
    search rules

pub returns-clause-opened : goal.returns-clause-opened
returns-clause-opened g c = λ t.
    store_opened c.args.shards c.args.shard _ c.args.marks.now c.args.tops.now (g.D.Disk.view c.args.disk.now) (g.D.Disk.view c.reopen.new.disk) c.requires.some refl (c.requires.pending t) (c.reopen.ensures.goes t).later (λ f. g.met.D.Disk.seen_may_stay c.reopen.new.disk f t) (c.requires.store t) (c.reopen.ensures.kept t) (c.in_ok-files.ensures.rest t) (c.in_ok-files.ensures.reads t)
