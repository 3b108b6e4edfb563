use Rattle.gor_flush.proofs.Steps.{goes_then, reads_goes}
use Rattle.gor_flush.proofs.Reopens.{reading_keeps, before_then}
use Rattle.gor_flush.proofs.reopening.reopen.Goals as goal

pub returns-in_err-files-clause-goes : goal.returns-in_err-files-clause-goes
returns-in_err-files-clause-goes g c = λ t. reads_goes _ _ (c.find_files.ensures.same t)

pub returns-in_default-clause-goes : goal.returns-in_default-clause-goes
returns-in_default-clause-goes g c = λ t. goes_then _ (g.D.Disk.view c.find_files.new.disk) _ (reads_goes _ _ (c.find_files.ensures.same t)) (c.settle.ensures.goes t)

pub returns-clause-goes : goal.returns-clause-goes
returns-clause-goes g c = λ t. goes_then _ (g.D.Disk.view c.find_files.new.disk) _ (reads_goes _ _ (c.find_files.ensures.same t)) (c.settle.ensures.goes t)

pub returns-in_err-files-clause-kept : goal.returns-in_err-files-clause-kept
returns-in_err-files-clause-kept g c = λ t. reading_keeps c.args.marks.now _ _ (c.find_files.ensures.same t)

pub returns-in_default-clause-kept : goal.returns-in_default-clause-kept
returns-in_default-clause-kept g c = λ t.
    let old = g.D.Disk.view c.args.disk.now in
    let mid = g.D.Disk.view c.find_files.new.disk in
    before_then c.args.marks.now old mid (g.D.Disk.view c.settle.new.disk) (reads_goes old mid (c.find_files.ensures.same t)) (c.settle.ensures.goes t) (reading_keeps c.args.marks.now old mid (c.find_files.ensures.same t)) (c.settle.ensures.kept t)

pub returns-clause-kept : goal.returns-clause-kept
returns-clause-kept g c = λ t.
    let old = g.D.Disk.view c.args.disk.now in
    let mid = g.D.Disk.view c.find_files.new.disk in
    before_then c.args.marks.now old mid (g.D.Disk.view c.settle.new.disk) (reads_goes old mid (c.find_files.ensures.same t)) (c.settle.ensures.goes t) (reading_keeps c.args.marks.now old mid (c.find_files.ensures.same t)) (c.settle.ensures.kept t)
