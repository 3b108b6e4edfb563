use Rattle.gor_disk.specs.declared.disk.FileId.TheVariants.{Keys}
use Rattle.gor_seal.proofs.Beside.{keeps_beside, two_calls}
use Rattle.gor_seal.proofs.files.write_keys_file.Goals as goal

pub returns-in_err-cut_all-clause-kept : goal.returns-in_err-cut_all-clause-kept
returns-in_err-cut_all-clause-kept g c = λ t. keeps_beside (Keys c.args.keys) _ _ (g.met.D.Disk.seen_may_stay c.args.disk.now (Keys c.args.keys) t) (c.cut_all.ensures.touched t)

pub returns-in_default-clause-kept : goal.returns-in_default-clause-kept
returns-in_default-clause-kept g c = λ t.
    two_calls (Keys c.args.keys) _ (g.D.Disk.view c.cut_all.new.disk) _ (g.met.D.Disk.seen_may_stay c.args.disk.now (Keys c.args.keys) t) (c.cut_all.ensures.touched t) (c.begin.ensures.touched t)

pub returns-clause-kept : goal.returns-clause-kept
returns-clause-kept g c = λ t.
    two_calls (Keys c.args.keys) _ (g.D.Disk.view c.cut_all.new.disk) _ (g.met.D.Disk.seen_may_stay c.args.disk.now (Keys c.args.keys) t) (c.cut_all.ensures.touched t) (c.begin.ensures.touched t)
