use Rattle.std.proofs.Common.{refl}
use Rattle.gor_flush.proofs.Prepares.{fresh_holds, fresh_holds_yet, fresh_opened}
use Rattle.gor_flush.proofs.Dropped.{home_replaces_none}
use Rattle.gor_flush.proofs.Steps.{goes_still}
use Rattle.gor_flush.proofs.preparing.prepare_fresh.Goals as goal

pub returns-in_default-clause-goes : goal.returns-in_default-clause-goes
returns-in_default-clause-goes g c = λ t. goes_still _

pub returns-in_default-clause-held : goal.returns-in_default-clause-held
returns-in_default-clause-held g c = λ t. fresh_holds_yet c.args.shards c.args.shard _ (g.D.Disk.view c.args.disk.now) refl (c.requires.pending t) (c.requires.fresh t).marks

pub returns-in_default-vec-clause-goes : goal.returns-in_default-vec-clause-goes
returns-in_default-vec-clause-goes g c = λ t. goes_still _

pub returns-in_default-vec-clause-held : goal.returns-in_default-vec-clause-held
returns-in_default-vec-clause-held g c = λ t. fresh_holds_yet c.args.shards c.args.shard _ (g.D.Disk.view c.args.disk.now) refl (c.requires.pending t) (c.requires.fresh t).marks

pub returns-in_default-copy_tops-clause-goes : goal.returns-in_default-copy_tops-clause-goes
returns-in_default-copy_tops-clause-goes g c = λ t. goes_still _

pub returns-in_default-copy_tops-clause-held : goal.returns-in_default-copy_tops-clause-held
returns-in_default-copy_tops-clause-held g c = λ t. fresh_holds_yet c.args.shards c.args.shard _ (g.D.Disk.view c.args.disk.now) refl (c.requires.pending t) (c.requires.fresh t).marks

pub returns-in_err-files-clause-held : goal.returns-in_err-files-clause-held
returns-in_err-files-clause-held g c = λ t. fresh_holds c.args.shards c.args.shard _ (g.D.Disk.view c.args.disk.now) (g.D.Disk.view c.begin.new.disk) refl (c.requires.pending t) (c.requires.fresh t).marks (c.begin.ensures.kept t)

pub returns-clause-held : goal.returns-clause-held
returns-clause-held g c = λ t. fresh_holds c.args.shards c.args.shard _ (g.D.Disk.view c.args.disk.now) (g.D.Disk.view c.begin.new.disk) refl (c.requires.pending t) (c.requires.fresh t).marks (c.begin.ensures.kept t)

pub returns-clause-opened : goal.returns-clause-opened
returns-clause-opened g c = λ t. fresh_opened c.args.shards c.args.shard _ c.args.tops.now (g.D.Disk.view c.begin.new.disk) (c.requires.fresh t) (λ un. c.in_ok-files.ensures.begun t un) (c.in_ok-files.ensures.rest t) (c.in_ok-files.ensures.logs t)

pub returns-clause-dropped : goal.returns-clause-dropped
returns-clause-dropped g c = λ t. home_replaces_none c.args.shards c.args.shard (g.D.Disk.view c.begin.new.disk)
