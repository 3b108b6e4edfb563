use Rattle.gor_disk.specs.declared.disk.FileId.TheVariants.{Block}
use Rattle.gor_seal.proofs.Beside.{keeps_beside, two_calls}
use Rattle.gor_seal.proofs.files.write_blocks.Goals as goal

pub returns-in_err-cut_all-clause-kept : goal.returns-in_err-cut_all-clause-kept
returns-in_err-cut_all-clause-kept g c = λ t. keeps_beside (Block c.args.window) _ _ (g.met.D.Disk.seen_may_stay c.args.disk.now (Block c.args.window) t) (c.cut_all.ensures.touched t)

pub returns-clause-kept : goal.returns-clause-kept
returns-clause-kept g c = λ t.
    two_calls (Block c.args.window) _ (g.D.Disk.view c.cut_all.new.disk) _ (g.met.D.Disk.seen_may_stay c.args.disk.now (Block c.args.window) t) (c.cut_all.ensures.touched t) (c.write_whole.ensures.touched t)
