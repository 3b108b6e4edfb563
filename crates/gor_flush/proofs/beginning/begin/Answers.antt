use Rattle.std.proofs.Common.{inl, refl}
use Rattle.gor_flush.proofs.Begins.{begins_on, begun_now}
use Rattle.gor_flush.proofs.Steps.{goes_then, touches_goes}
use Rattle.gor_flush.proofs.beginning.begin.Goals as goal

pub returns-in_default-clause-goes : goal.returns-in_default-clause-goes
returns-in_default-clause-goes g c = λ t. goes_then _ (g.D.Disk.view c.begin_files.new.disk) _ (c.begin_files.ensures.goes t) (touches_goes _ _ _ _ (c.append.ensures.any_moment t))

pub returns-clause-goes : goal.returns-clause-goes
returns-clause-goes g c = λ t. goes_then _ (g.D.Disk.view c.begin_files.new.disk) _ (c.begin_files.ensures.goes t) (touches_goes _ _ _ _ (c.append.ensures.any_moment t))

pub returns-in_err-files-clause-kept : goal.returns-in_err-files-clause-kept
returns-in_err-files-clause-kept g c = λ t all k image low high is. inl (c.begin_files.ensures.kept t all k image low high is)

pub returns-in_default-clause-kept : goal.returns-in_default-clause-kept
returns-in_default-clause-kept g c = λ t.
    begins_on c.args.shards c.args.shard c.requires.home c.args.frame.now.body c.requires.frame _ (g.D.Disk.view c.begin_files.new.disk) (g.D.Disk.view c.append.new.disk) c.in_ok-files.files
    c.in_ok-files.ensures.files (c.in_ok-files.ensures.ensured t) (c.in_ok-files.ensures.rest t) (c.in_ok-files.ensures.lists t) (c.append.ensures.any_moment t)
    (g.D.Disk.view c.args.disk.now) refl (λ f. g.met.D.Disk.seen_may_stay c.begin_files.new.disk f t) (c.begin_files.ensures.goes t) (c.begin_files.ensures.kept t)

pub returns-clause-kept : goal.returns-clause-kept
returns-clause-kept g c = λ t.
    begins_on c.args.shards c.args.shard c.requires.home c.args.frame.now.body c.requires.frame _ (g.D.Disk.view c.begin_files.new.disk) (g.D.Disk.view c.append.new.disk) c.in_ok-files.files
    c.in_ok-files.ensures.files (c.in_ok-files.ensures.ensured t) (c.in_ok-files.ensures.rest t) (c.in_ok-files.ensures.lists t) (c.append.ensures.any_moment t)
    (g.D.Disk.view c.args.disk.now) refl (λ f. g.met.D.Disk.seen_may_stay c.begin_files.new.disk f t) (c.begin_files.ensures.goes t) (c.begin_files.ensures.kept t)

pub returns-clause-begun : goal.returns-clause-begun
returns-clause-begun g c = λ t un.
    begun_now c.args.shards c.args.shard c.requires.home c.args.frame.now.body c.requires.frame _ (g.D.Disk.view c.begin_files.new.disk) (g.D.Disk.view c.append.new.disk) c.in_ok-files.files
    c.in_ok-files.ensures.files (c.in_ok-files.ensures.ensured t) (c.in_ok-files.ensures.rest t) (c.in_ok-files.ensures.lists t) (c.append.ensures.any_moment t)
    c.append.new.self un c.append.ensures.file (c.in-Ok.ensures.ensured t) (c.in-Ok.ensures.appended t)
