use Rattle.std.proofs.Common.{◌≡◌, subst, ◌∙◌}
use Rattle.gor_disk.specs.declared.disk.FileId.TheVariants.{Log}
use Rattle.gor_gate.specs.Gates.{gates}
use Rattle.gor_seal.proofs.Beside.{keeps_beside, loosened, two_calls, no_bodies}
use Rattle.gor_seal.proofs.files.begin_log.Goals as goal

pub returns-in_err-cut_all-clause-kept : goal.returns-in_err-cut_all-clause-kept
returns-in_err-cut_all-clause-kept g c = λ t. keeps_beside (Log c.args.log) _ _ (g.met.D.Disk.seen_may_stay c.args.disk.now (Log c.args.log) t) (c.cut_all.ensures.touched t)

pub returns-in_default-clause-kept : goal.returns-in_default-clause-kept
returns-in_default-clause-kept g c = λ t.
    two_calls (Log c.args.log) _ (g.D.Disk.view c.cut_all.new.disk) _ (g.met.D.Disk.seen_may_stay c.args.disk.now (Log c.args.log) t) (c.cut_all.ensures.touched t)
    (loosened (Log c.args.log) c.empty-gated.result.file _ _ _ c.empty-gated.ensures.file (c.ensure.ensures.any_moment t))

pub returns-clause-kept : goal.returns-clause-kept
returns-clause-kept g c = λ t.
    two_calls (Log c.args.log) _ (g.D.Disk.view c.cut_all.new.disk) _ (g.met.D.Disk.seen_may_stay c.args.disk.now (Log c.args.log) t) (c.cut_all.ensures.touched t)
    (loosened (Log c.args.log) c.empty-gated.result.file _ _ _ c.empty-gated.ensures.file (c.ensure.ensures.any_moment t))

pub returns-clause-list : goal.returns-clause-list
returns-clause-list g c = λ t.
    let new = g.D.Disk.view c.ensure.new.disk in
    let mid = g.D.Disk.view c.cut_all.new.disk in
    let same = subst (λ f. gates (new.seen f) ≡ gates (mid.seen f)) c.empty-gated.ensures.file (c.in-Ok.ensures.same t) in
    same ∙ no_bodies (mid.seen (Log c.args.log)) (c.in_ok-cut_all.ensures.empty t)
