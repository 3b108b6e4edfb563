use Rattle.gor_disk.specs.declared.disk.FileId.TheVariants.{Keys, Log, Block}
use Rattle.gor_seal_tests.proofs.Turnovers.{after_block, after_keys, after_log, after_mark, marks_stay}
use Rattle.gor_seal_tests.proofs.turning.turn_over.Goals as goal

pub write_mark_file-requires-clause-ensured : goal.write_mark_file-requires-clause-ensured
write_mark_file-requires-clause-ensured g c = λ t.
    let old = g.D.Disk.view c.args.disk.now in
    let one = g.D.Disk.view c.write_blocks.new.disk in
    let two = g.D.Disk.view c.write_keys_file.new.disk in
    let three = g.D.Disk.view c.begin_log.new.disk in
    let here = c.args.marks.now in
    marks_stay here (Log c.args.number) two three c.requires.file (λ e. absurd cc)
    (marks_stay here (Keys c.args.number) one two c.requires.file (λ e. absurd cc)
    (marks_stay here (Block c.args.window) old one c.requires.file (λ e. absurd cc) (c.requires.ensured t) (c.write_blocks.ensures.touched t))
    (c.write_keys_file.ensures.touched t))
    (c.begin_log.ensures.touched t)

pub returns-in_err-write_blocks-clause-kept : goal.returns-in_err-write_blocks-clause-kept
returns-in_err-write_blocks-clause-kept g c = λ t.
    after_block c.args.window c.args.number c.args.blocks.now c.args.list.now.body c.args.mark.now.body (g.D.Disk.view c.args.disk.now) (g.D.Disk.view c.write_blocks.new.disk)
    (c.write_blocks.ensures.touched t) (c.write_blocks.ensures.kept t)

pub returns-in_err-write_keys_file-clause-kept : goal.returns-in_err-write_keys_file-clause-kept
returns-in_err-write_keys_file-clause-kept g c = λ t.
    after_keys c.args.window c.args.number c.args.blocks.now c.args.list.now.body c.args.mark.now.body (g.D.Disk.view c.args.disk.now) (g.D.Disk.view c.write_blocks.new.disk)
    (c.write_blocks.ensures.touched t) (c.write_blocks.ensures.kept t) (g.D.Disk.view c.write_keys_file.new.disk) (c.write_keys_file.ensures.touched t) (c.write_keys_file.ensures.kept t)

pub returns-in_err-begin_log-clause-kept : goal.returns-in_err-begin_log-clause-kept
returns-in_err-begin_log-clause-kept g c = λ t.
    after_log c.args.window c.args.number c.args.blocks.now c.args.list.now.body c.args.mark.now.body (g.D.Disk.view c.args.disk.now) (g.D.Disk.view c.write_blocks.new.disk)
    (c.write_blocks.ensures.touched t) (c.write_blocks.ensures.kept t) (g.D.Disk.view c.write_keys_file.new.disk) (c.write_keys_file.ensures.touched t) (c.write_keys_file.ensures.kept t)
    (g.D.Disk.view c.begin_log.new.disk) (c.begin_log.ensures.touched t) (c.begin_log.ensures.kept t)

pub returns-clause-kept : goal.returns-clause-kept
returns-clause-kept g c = λ t.
    after_mark c.args.window c.args.number c.args.blocks.now c.args.list.now.body c.args.mark.now.body (g.D.Disk.view c.args.disk.now) (g.D.Disk.view c.write_blocks.new.disk)
    (c.write_blocks.ensures.touched t) (c.write_blocks.ensures.kept t) (g.D.Disk.view c.write_keys_file.new.disk) (c.write_keys_file.ensures.touched t) (c.write_keys_file.ensures.kept t)
    (g.D.Disk.view c.begin_log.new.disk) (c.begin_log.ensures.touched t) (c.begin_log.ensures.kept t)
    (c.in_ok-write_blocks.ensures.written t) c.in_ok-write_keys_file.field-0 c.in_ok-begin_log.field-0 c.in_ok-write_keys_file.ensures.file c.in_ok-begin_log.ensures.file
    (c.in_ok-write_keys_file.ensures.ensured t) (c.in_ok-begin_log.ensures.ensured t) (c.in_ok-write_keys_file.ensures.list t) (c.in_ok-begin_log.ensures.list t)
    (g.D.Disk.view c.write_mark_file.new.disk) _ (c.write_mark_file.ensures.any_moment t) (c.write_mark_file.ensures.kept t)
