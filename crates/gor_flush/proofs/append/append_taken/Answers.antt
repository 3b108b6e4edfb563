use Rattle.gor_flush.proofs.Sequence.{keys_run, both_run, keys_others, both_others, log_has, keys_keep, keys_have}
use Rattle.gor_flush.proofs.Extending.{extends_failed, extends_done}
use Rattle.gor_flush.proofs.append.append_taken.Goals as goal

pub returns-in_err-append_body-clause-any_moment : goal.returns-in_err-append_body-clause-any_moment
returns-in_err-append_body-clause-any_moment g c = λ t.
    keys_run c.args.keys.now c.args.log.now c.requires.two c.args.buffers.now.keys.items c.args.buffers.now.log.items (g.D.Disk.view c.args.disk.now) (c.requires.keys t) (c.requires.log t) (g.D.Disk.view c.append_body.new.disk) (c.append_body.ensures.any_moment t)

pub returns-in_err-append_body-clause-others : goal.returns-in_err-append_body-clause-others
returns-in_err-append_body-clause-others g c = λ t. keys_others c.args.keys.now c.args.log.now c.requires.two c.args.buffers.now.keys.items c.args.buffers.now.log.items (g.D.Disk.view c.args.disk.now) (c.requires.keys t) (c.requires.log t) (g.D.Disk.view c.append_body.new.disk) (c.append_body.ensures.any_moment t)

pub returns-in_err-append_body-clause-changes : goal.returns-in_err-append_body-clause-changes
returns-in_err-append_body-clause-changes g c = λ t.
    extends_failed c.args.keys.now c.args.log.now c.args.buffers.now (g.D.Disk.view c.args.disk.now) (g.D.Disk.view c.append_body.new.disk) (λ f. g.met.D.Disk.seen_may_stay c.args.disk.now f t)
    (keys_run c.args.keys.now c.args.log.now c.requires.two c.args.buffers.now.keys.items c.args.buffers.now.log.items (g.D.Disk.view c.args.disk.now) (c.requires.keys t) (c.requires.log t) (g.D.Disk.view c.append_body.new.disk) (c.append_body.ensures.any_moment t))
    c.from_residual.result c.from_residual.ensures.0

pub returns-in_err-append_body-2-clause-any_moment : goal.returns-in_err-append_body-2-clause-any_moment
returns-in_err-append_body-2-clause-any_moment g c = λ t.
    both_run c.args.keys.now c.args.log.now c.requires.two c.args.buffers.now.keys.items c.args.buffers.now.log.items (g.D.Disk.view c.args.disk.now) (c.requires.keys t) (c.requires.log t) (g.D.Disk.view c.append_body.new.disk) (g.D.Disk.view c.append_body-2.new.disk) c.append_body.new.gated (c.append_body.ensures.any_moment t) c.append_body.ensures.file (c.in_ok-append_body.ensures.ensured t) (c.in_ok-append_body.ensures.appended t) (c.append_body-2.ensures.any_moment t)

pub returns-in_err-append_body-2-clause-others : goal.returns-in_err-append_body-2-clause-others
returns-in_err-append_body-2-clause-others g c = λ t. both_others c.args.keys.now c.args.log.now c.requires.two c.args.buffers.now.keys.items c.args.buffers.now.log.items (g.D.Disk.view c.args.disk.now) (c.requires.keys t) (c.requires.log t) (g.D.Disk.view c.append_body.new.disk) (g.D.Disk.view c.append_body-2.new.disk) (c.append_body.ensures.any_moment t) (c.append_body-2.ensures.any_moment t)

pub returns-in_err-append_body-2-clause-changes : goal.returns-in_err-append_body-2-clause-changes
returns-in_err-append_body-2-clause-changes g c = λ t.
    extends_failed c.args.keys.now c.args.log.now c.args.buffers.now (g.D.Disk.view c.args.disk.now) (g.D.Disk.view c.append_body-2.new.disk) (λ f. g.met.D.Disk.seen_may_stay c.args.disk.now f t)
    (both_run c.args.keys.now c.args.log.now c.requires.two c.args.buffers.now.keys.items c.args.buffers.now.log.items (g.D.Disk.view c.args.disk.now) (c.requires.keys t) (c.requires.log t) (g.D.Disk.view c.append_body.new.disk) (g.D.Disk.view c.append_body-2.new.disk) c.append_body.new.gated (c.append_body.ensures.any_moment t) c.append_body.ensures.file (c.in_ok-append_body.ensures.ensured t) (c.in_ok-append_body.ensures.appended t) (c.append_body-2.ensures.any_moment t))
    c.from_residual-in_err-append_body-2.result c.from_residual-in_err-append_body-2.ensures.0

pub returns-clause-any_moment : goal.returns-clause-any_moment
returns-clause-any_moment g c = λ t.
    both_run c.args.keys.now c.args.log.now c.requires.two c.args.buffers.now.keys.items c.args.buffers.now.log.items (g.D.Disk.view c.args.disk.now) (c.requires.keys t) (c.requires.log t) (g.D.Disk.view c.append_body.new.disk) (g.D.Disk.view c.append_body-2.new.disk) c.append_body.new.gated (c.append_body.ensures.any_moment t) c.append_body.ensures.file (c.in_ok-append_body.ensures.ensured t) (c.in_ok-append_body.ensures.appended t) (c.append_body-2.ensures.any_moment t)

pub returns-clause-others : goal.returns-clause-others
returns-clause-others g c = λ t. both_others c.args.keys.now c.args.log.now c.requires.two c.args.buffers.now.keys.items c.args.buffers.now.log.items (g.D.Disk.view c.args.disk.now) (c.requires.keys t) (c.requires.log t) (g.D.Disk.view c.append_body.new.disk) (g.D.Disk.view c.append_body-2.new.disk) (c.append_body.ensures.any_moment t) (c.append_body-2.ensures.any_moment t)

pub returns-clause-keys : goal.returns-clause-keys
returns-clause-keys g c = λ t. keys_keep c.args.keys.now c.args.log.now c.requires.two c.args.buffers.now.keys.items c.args.buffers.now.log.items (g.D.Disk.view c.args.disk.now) (c.requires.keys t) (c.requires.log t) (g.D.Disk.view c.append_body.new.disk) (g.D.Disk.view c.append_body-2.new.disk) c.append_body.new.gated c.append_body.ensures.file (c.in_ok-append_body.ensures.ensured t) (c.append_body-2.ensures.any_moment t)

pub returns-clause-has_keys : goal.returns-clause-has_keys
returns-clause-has_keys g c = λ t. keys_have c.args.keys.now c.args.log.now c.requires.two c.args.buffers.now.keys.items c.args.buffers.now.log.items (g.D.Disk.view c.args.disk.now) (c.requires.keys t) (c.requires.log t) (g.D.Disk.view c.append_body.new.disk) (g.D.Disk.view c.append_body-2.new.disk) (c.append_body-2.ensures.any_moment t) (c.in_ok-append_body.ensures.appended t)

pub returns-clause-has_log : goal.returns-clause-has_log
returns-clause-has_log g c = λ t. log_has c.args.keys.now c.args.log.now c.requires.two c.args.buffers.now.keys.items c.args.buffers.now.log.items (g.D.Disk.view c.args.disk.now) (c.requires.keys t) (c.requires.log t) (g.D.Disk.view c.append_body.new.disk) (g.D.Disk.view c.append_body-2.new.disk) (c.append_body.ensures.any_moment t) (c.in_ok-append_body-2.ensures.appended t)

pub returns-clause-changes : goal.returns-clause-changes
returns-clause-changes g c = λ t.
    extends_done c.args.keys.now c.args.log.now c.args.buffers.now (g.D.Disk.view c.args.disk.now) (g.D.Disk.view c.append_body-2.new.disk) (λ f. g.met.D.Disk.seen_may_stay c.args.disk.now f t)
    (both_run c.args.keys.now c.args.log.now c.requires.two c.args.buffers.now.keys.items c.args.buffers.now.log.items (g.D.Disk.view c.args.disk.now) (c.requires.keys t) (c.requires.log t) (g.D.Disk.view c.append_body.new.disk) (g.D.Disk.view c.append_body-2.new.disk) c.append_body.new.gated (c.append_body.ensures.any_moment t) c.append_body.ensures.file (c.in_ok-append_body.ensures.ensured t) (c.in_ok-append_body.ensures.appended t) (c.append_body-2.ensures.any_moment t))
    c.append_body.new.gated c.append_body-2.new.gated c.append_body.ensures.file c.append_body-2.ensures.file
    (keys_keep c.args.keys.now c.args.log.now c.requires.two c.args.buffers.now.keys.items c.args.buffers.now.log.items (g.D.Disk.view c.args.disk.now) (c.requires.keys t) (c.requires.log t) (g.D.Disk.view c.append_body.new.disk) (g.D.Disk.view c.append_body-2.new.disk) c.append_body.new.gated c.append_body.ensures.file (c.in_ok-append_body.ensures.ensured t) (c.append_body-2.ensures.any_moment t))
    (c.in_ok-append_body-2.ensures.ensured t)
    (keys_have c.args.keys.now c.args.log.now c.requires.two c.args.buffers.now.keys.items c.args.buffers.now.log.items (g.D.Disk.view c.args.disk.now) (c.requires.keys t) (c.requires.log t) (g.D.Disk.view c.append_body.new.disk) (g.D.Disk.view c.append_body-2.new.disk) (c.append_body-2.ensures.any_moment t) (c.in_ok-append_body.ensures.appended t))
    (log_has c.args.keys.now c.args.log.now c.requires.two c.args.buffers.now.keys.items c.args.buffers.now.log.items (g.D.Disk.view c.args.disk.now) (c.requires.keys t) (c.requires.log t) (g.D.Disk.view c.append_body.new.disk) (g.D.Disk.view c.append_body-2.new.disk) (c.append_body.ensures.any_moment t) (c.in_ok-append_body-2.ensures.appended t))
