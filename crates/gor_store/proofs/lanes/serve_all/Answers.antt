use Rattle.std.proofs.Common.{◌≡◌, ℕ, ◌+◌, ◌*◌, ◌<◌, ◌≤◌, ap, arith, length, rules}
use Rattle.gor_store.proofs.RunLaws.{no_run, on_err_always}
use Rattle.gor_store.proofs.LineLaws.{rests_on}
use Rattle.gor_store.proofs.LaneLaws.{served_none, served_some, served_next, left_next, taken_next, rests_self, few_lines}
use Rattle.gor_store.proofs.lanes.serve_all.Goals as goal

pub loop-line-init : goal.loop-line-init
loop-line-init g c = record {
  place = Rattle.std.proofs.Common.refl;
  rests = rests_self c.args.shard.now c.args.pass.now c.requires.rests;
  served = served_none c.args.pass.now c.args.answers.now.items (no_run c.args.shard.now c.args.pass.now c.requires.rests);
  left = c.requires.left;
  taken = c.requires.taken;
}

pub returns-in_err-serve_line-clause-err : goal.returns-in_err-serve_line-clause-err
returns-in_err-serve_line-clause-err g c =
    let i = c.loop-line.invariant in
    on_err_always c.from_residual.result
    (served_some c.args.lines.now c.loop-line.line-index c.line-item.result c.loop-line-test.true c.line-item.is c.args.pass.now c.loop-line.pass c.serve_line.new.pass c.args.answers.now.items c.loop-line.answers.items
    i.rests.lane i.served c.in_err-serve_line.ensures.err)

pub overflow_add-place : goal.overflow_add-place
overflow_add-place g c =
    let few = few_lines c.args.lines.now c.args.pass.now c.requires.left c.requires.rests.pass.left in
    let place = c.loop-line.invariant.place in let low = c.loop-line-test.true in omega (arith, few, place, low)

pub loop-line-preserved : goal.loop-line-preserved
loop-line-preserved g c =
    let i = c.loop-line.invariant in let s = c.serve_line.ensures in
    let low = c.loop-line-test.true in let is = c.line-item.is in record {
      place = ap (λ (n : ℕ). n + 1) i.place;
      rests = rests_on c.args.shard.now c.args.pass.now c.loop-line.pass c.serve_line.new.pass (3 * c.loop-line.line-index) 3 (3 * (c.loop-line.line-index + 1)) (omega arith) i.rests s.rests;
      served = served_next c.args.lines.now c.loop-line.line-index c.line-item.result low is c.args.pass.now c.loop-line.pass c.serve_line.new.pass c.args.answers.now.items c.loop-line.answers.items c.serve_line.new.answers.items
          i.rests.lane i.served c.in_ok-serve_line.ensures.served;
      left = left_next c.args.lines.now c.loop-line.line-index c.line-item.result low is _ _ i.left s.rests.left;
      taken = taken_next c.args.lines.now c.loop-line.line-index c.line-item.result low is i.taken;
    }
