use Rattle.gor_file_tests.proofs.Sequence.{one_run, both_run}
use Rattle.gor_file_tests.proofs.pairs.append_both.Goals as goal

pub returns-in_err-append-clause-any_moment : goal.returns-in_err-append-clause-any_moment
returns-in_err-append-clause-any_moment g c = λ t.
    one_run c.args.first.now c.args.second.now c.requires.two c.args.first_frame.now.body c.args.second_frame.now.body (g.D.Disk.view c.args.disk.now) (c.requires.first t) (c.requires.second t) (g.D.Disk.view c.append.new.disk) (c.append.ensures.any_moment t)

pub returns-clause-any_moment : goal.returns-clause-any_moment
returns-clause-any_moment g c = λ t.
    both_run c.args.first.now c.args.second.now c.requires.two c.args.first_frame.now.body c.args.second_frame.now.body (g.D.Disk.view c.args.disk.now) (c.requires.first t) (c.requires.second t) (g.D.Disk.view c.append.new.disk) (g.D.Disk.view c.append-2.new.disk) c.append.new.self
    (c.append.ensures.any_moment t) c.append.ensures.file (c.in_ok-append.ensures.ensured t) (c.in_ok-append.ensures.appended t) (c.append-2.ensures.any_moment t)
