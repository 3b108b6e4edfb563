use Rattle.gor_flush.proofs.Ensures.{stage_now, stage_run, stage_next, marks_current, keys_current, log_current}
use Rattle.gor_flush.proofs.Results.{on_ok_two}
use Rattle.gor_flush.proofs.files.ensure_all.Goals as goal

pub returns-in_err-ensure_one-clause-run : goal.returns-in_err-ensure_one-clause-run
returns-in_err-ensure_one-clause-run g c = λ t number are.
    let files = c.args.files.now in
    stage_run number _ _ _ files.marks.file (marks_current number files.marks.file are.marks) (stage_now number _ (c.requires.pending t)) (c.ensure_one.ensures.touched t)

pub returns-in_err-ensure_one-2-clause-run : goal.returns-in_err-ensure_one-2-clause-run
returns-in_err-ensure_one-2-clause-run g c = λ t number are.
    let files = c.args.files.now in
    let one = stage_next number _ _ _ files.marks.file c.ensure_one.new.gated (marks_current number files.marks.file are.marks) (stage_now number _ (c.requires.pending t)) (c.ensure_one.ensures.touched t) c.ensure_one.ensures.file (c.in_ok-ensure_one.ensures.ensured t) (c.in_ok-ensure_one.ensures.same t) in
    stage_run number _ _ _ files.keys.file (keys_current number files.keys.file are.keys) one (c.ensure_one-2.ensures.touched t)

pub returns-clause-run : goal.returns-clause-run
returns-clause-run g c = λ t number are.
    let files = c.args.files.now in
    let one = stage_next number _ _ _ files.marks.file c.ensure_one.new.gated (marks_current number files.marks.file are.marks) (stage_now number _ (c.requires.pending t)) (c.ensure_one.ensures.touched t) c.ensure_one.ensures.file (c.in_ok-ensure_one.ensures.ensured t) (c.in_ok-ensure_one.ensures.same t) in
    let two = stage_next number _ _ _ files.keys.file c.ensure_one-2.new.gated (keys_current number files.keys.file are.keys) one (c.ensure_one-2.ensures.touched t) c.ensure_one-2.ensures.file (c.in_ok-ensure_one-2.ensures.ensured t) (c.in_ok-ensure_one-2.ensures.same t) in
    stage_run number _ _ _ files.log.file (log_current number files.log.file are.log) two (c.ensure_one-3.ensures.touched t)

pub returns-clause-rest : goal.returns-clause-rest
returns-clause-rest g c = λ t number are.
    let files = c.args.files.now in
    let one = stage_next number _ _ _ files.marks.file c.ensure_one.new.gated (marks_current number files.marks.file are.marks) (stage_now number _ (c.requires.pending t)) (c.ensure_one.ensures.touched t) c.ensure_one.ensures.file (c.in_ok-ensure_one.ensures.ensured t) (c.in_ok-ensure_one.ensures.same t) in
    let two = stage_next number _ _ _ files.keys.file c.ensure_one-2.new.gated (keys_current number files.keys.file are.keys) one (c.ensure_one-2.ensures.touched t) c.ensure_one-2.ensures.file (c.in_ok-ensure_one-2.ensures.ensured t) (c.in_ok-ensure_one-2.ensures.same t) in
    on_ok_two c.ensure_one-3.result (c.ensure_one-3.ensures.ensured t) (c.ensure_one-3.ensures.same t) (λ ensured same.
    (stage_next number _ _ _ files.log.file c.ensure_one-3.new.gated (log_current number files.log.file are.log) two (c.ensure_one-3.ensures.touched t) c.ensure_one-3.ensures.file ensured same).rest)
