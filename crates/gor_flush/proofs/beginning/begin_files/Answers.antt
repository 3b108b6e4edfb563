use Rattle.std.proofs.Common.{rules}
use Rattle.gor_flush.proofs.Begins.{two_go, three_go, four_go, two_keep, three_keep, four_keep, all_lists, whole_before}
use Rattle.gor_flush.proofs.Steps.{reads_goes, reads_keep}
use Rattle.gor_flush.specs.Opening.{IsUnmarked}
use Rattle.gor_flush.proofs.beginning.begin_files.Goals as goal

pub returns-in_err-marks-clause-goes : goal.returns-in_err-marks-clause-goes
returns-in_err-marks-clause-goes g c = λ t. reads_goes _ _ (c.find_marks.ensures.same t)

pub returns-in_err-marks-clause-kept : goal.returns-in_err-marks-clause-kept
returns-in_err-marks-clause-kept g c = λ t. reads_keep IsUnmarked _ _ (c.find_marks.ensures.same t)

pub returns-in_default-clause-goes : goal.returns-in_default-clause-goes
returns-in_default-clause-goes g c = λ t. two_go _ _ _ (c.find_marks.ensures.same t) (λ f. g.met.D.Disk.seen_may_stay c.find_marks.new.disk f t) (c.clear_first.ensures.touched t)

pub returns-in_default-clause-kept : goal.returns-in_default-clause-kept
returns-in_default-clause-kept g c = λ t. two_keep _ _ _ (c.find_marks.ensures.same t) (λ f. g.met.D.Disk.seen_may_stay c.find_marks.new.disk f t) (c.clear_first.ensures.touched t)

pub returns-in_err-files-clause-goes : goal.returns-in_err-files-clause-goes
returns-in_err-files-clause-goes g c = λ t. three_go _ _ _ (c.find_marks.ensures.same t) (λ f. g.met.D.Disk.seen_may_stay c.find_marks.new.disk f t) (c.clear_first.ensures.touched t) _ (c.find_beside.ensures.same t)

pub returns-in_err-files-clause-kept : goal.returns-in_err-files-clause-kept
returns-in_err-files-clause-kept g c = λ t. three_keep _ _ _ (c.find_marks.ensures.same t) (λ f. g.met.D.Disk.seen_may_stay c.find_marks.new.disk f t) (c.clear_first.ensures.touched t) _ (c.find_beside.ensures.same t)

pub returns-in_err-files-clause-whole : goal.returns-in_err-files-clause-whole
returns-in_err-files-clause-whole g c = λ t whole.
    let none = c.in_err-files.ensures.whole t (whole_before _ _ _ (c.find_marks.ensures.same t) (c.clear_first.ensures.touched t) (c.in-Ok.ensures.keys t) (c.in-Ok.ensures.log t) whole) in
    search rules

pub returns-in_default-ensure_all-clause-goes : goal.returns-in_default-ensure_all-clause-goes
returns-in_default-ensure_all-clause-goes g c = λ t. four_go _ _ _ (c.find_marks.ensures.same t) (λ f. g.met.D.Disk.seen_may_stay c.find_marks.new.disk f t) (c.clear_first.ensures.touched t) _ (c.find_beside.ensures.same t) _ (c.ensure_all.ensures.run t 0 c.in_ok-files.ensures.files)

pub returns-in_default-ensure_all-clause-kept : goal.returns-in_default-ensure_all-clause-kept
returns-in_default-ensure_all-clause-kept g c = λ t. four_keep _ _ _ (c.find_marks.ensures.same t) (λ f. g.met.D.Disk.seen_may_stay c.find_marks.new.disk f t) (c.clear_first.ensures.touched t) _ (c.find_beside.ensures.same t) _ (λ f. g.met.D.Disk.seen_may_stay c.find_beside.new.disk f t) (c.ensure_all.ensures.run t 0 c.in_ok-files.ensures.files)

pub returns-clause-goes : goal.returns-clause-goes
returns-clause-goes g c = λ t. four_go _ _ _ (c.find_marks.ensures.same t) (λ f. g.met.D.Disk.seen_may_stay c.find_marks.new.disk f t) (c.clear_first.ensures.touched t) _ (c.find_beside.ensures.same t) _ (c.ensure_all.ensures.run t 0 c.in_ok-files.ensures.files)

pub returns-clause-kept : goal.returns-clause-kept
returns-clause-kept g c = λ t. four_keep _ _ _ (c.find_marks.ensures.same t) (λ f. g.met.D.Disk.seen_may_stay c.find_marks.new.disk f t) (c.clear_first.ensures.touched t) _ (c.find_beside.ensures.same t) _ (λ f. g.met.D.Disk.seen_may_stay c.find_beside.new.disk f t) (c.ensure_all.ensures.run t 0 c.in_ok-files.ensures.files)

pub returns-clause-lists : goal.returns-clause-lists
returns-clause-lists g c = λ t. all_lists _ _ _ (c.find_marks.ensures.same t) (λ f. g.met.D.Disk.seen_may_stay c.find_marks.new.disk f t) (c.clear_first.ensures.touched t) _ (c.find_beside.ensures.same t) (c.in-Ok.ensures.keys t) (c.in-Ok.ensures.log t) _ (c.in-Ok-ensure_all.ensures.rest t 0 c.in_ok-files.ensures.files)
