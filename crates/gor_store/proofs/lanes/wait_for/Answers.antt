use Rattle.std.proofs.Common.{[], arith, ◌≤◌}
use Rattle.gor_hall.specs.Passes.{left_of_pass}
use Rattle.gor_store.proofs.RunLaws.{runs_on}
use Rattle.gor_store.proofs.LineLaws.{rests_on}
use Rattle.gor_store.proofs.LaneLaws.{looked}
use Rattle.gor_store.proofs.lanes.wait_for.Goals as goal

pub returns-then-look-events-clause-none : goal.returns-then-look-events-clause-none
returns-then-look-events-clause-none g c =
    let i = c.loop.invariant in let p = c.look.ensures.pass in
    let low : left_of_pass c.loop.pass ≤ left_of_pass c.look.new.pass = (let q = p.2 in omega arith) in
    let l = looked c.args.shard.now c.loop.pass c.look.new.pass c.look.result i.0.rests p.0 p.1 low c.look.ensures.looked in
    runs_on c.args.pass.now c.loop.pass c.look.new.pass [] [] i.0.lane i.1 l.1

pub loop-preserved : goal.loop-preserved
loop-preserved g c =
    let i = c.loop.invariant in let p = c.look.ensures.pass in
    let low : left_of_pass c.loop.pass ≤ left_of_pass c.look.new.pass = (let q = p.2 in omega arith) in
    let l = looked c.args.shard.now c.loop.pass c.look.new.pass c.look.result i.0.rests p.0 p.1 low c.look.ensures.looked in
    (rests_on c.args.shard.now c.args.pass.now c.loop.pass c.look.new.pass 0 0 0 (omega arith) i.0 l.0, runs_on c.args.pass.now c.loop.pass c.look.new.pass [] [] i.0.lane i.1 l.1)
