use Rattle.std.proofs.Common.{subst, List}
use Rattle.std.proofs.lemmas.Result.{on_ok_weaker, on_err_weaker}
use Rattle.gor_text.specs.declared.answer.LaneAnswer.{LaneAnswer}
use Rattle.gor_store.specs.Lanes.{ServesAll}
use Rattle.gor_store.proofs.LaneLaws.{runs_lane, made_from}
use Rattle.gor_store.proofs.lanes.run_lane.Goals as goal

pub returns-clause-runs : goal.returns-clause-runs
returns-clause-runs g c =
    let w = c.wait_for.ensures in let s = c.serve_all.ensures in
    on_ok_weaker c.serve_all.result (λ a.
    runs_lane c.args.lines.now c.args.before c.args.pass.now c.wait_for.new.pass c.serve_all.new.pass c.serve_all.new.answers.items w.rests.lane s.rests.lane w.rests.rests.own w.long w.none
    (subst (λ (z : List LaneAnswer). ServesAll c.args.lines.now c.wait_for.new.pass c.serve_all.new.pass z c.serve_all.new.answers.items) c.requires.empty a)) s.served

pub returns-clause-err : goal.returns-clause-err
returns-clause-err g c =
    let w = c.wait_for.ensures in let s = c.serve_all.ensures in
    on_err_weaker c.serve_all.result (made_from c.args.lines.now c.args.before c.args.pass.now c.wait_for.new.pass c.serve_all.new.pass w.rests.lane s.rests.lane w.rests.rests.own w.long w.none) s.err
