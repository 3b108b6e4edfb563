use Rattle.std.proofs.Common.{◌<◌, length, map, arith}
use Rattle.gor_tally.specs.Feeding.{given_to}
use Rattle.gor_tally.proofs.FeedLaws.{on_err, shown-count, shown-all, shown-more, shown-same}
use Rattle.gor_tally.proofs.feeding.give.Goals as goal

pub index_mut-requires : goal.index_mut-requires
index_mut-requires g c =
    let same = shown-count (λ b. (goal.Tally-dyn g (b.vtable, b.value)).meaning b.value) c.loop-at.tallies.items c.args.tallies.now.items c.loop-at.at c.args.page.now c.loop-at.invariant in
    omega (arith, same, c.loop-at.tallies.ok, c.args.tallies.now.ok, c.loop-at-test.true, c.len-at-end.ensures)

pub returns-in_err-give_one-clause-err : goal.returns-in_err-give_one-clause-err
returns-in_err-give_one-clause-err g c =
    let same = shown-count (λ b. (goal.Tally-dyn g (b.vtable, b.value)).meaning b.value) c.loop-at.tallies.items c.args.tallies.now.items c.loop-at.at c.args.page.now c.loop-at.invariant in
    let there : c.loop-at.at < length c.loop-at.tallies.items = omega (arith, same, c.loop-at.tallies.ok, c.args.tallies.now.ok, c.loop-at-test.true, c.len-at-end.ensures) in
    let same_meaning = shown-same (λ b. (goal.Tally-dyn g (b.vtable, b.value)).meaning b.value) c.loop-at.tallies.items c.loop-at.at (given_to c.loop-at.at c.args.page.now (map (λ b. (goal.Tally-dyn g (b.vtable, b.value)).meaning b.value) c.args.tallies.now.items)) c.index_mut.result.now c.give_one.new.tally c.loop-at.invariant there c.index_mut.ensures.value c.in_err-give_one.ensures.err in
    on_err c.from_residual.result (c.loop-at.at, same_meaning)

pub loop-at-preserved : goal.loop-at-preserved
loop-at-preserved g c =
    let same = shown-count (λ b. (goal.Tally-dyn g (b.vtable, b.value)).meaning b.value) c.loop-at.tallies.items c.args.tallies.now.items c.loop-at.at c.args.page.now c.loop-at.invariant in
    let there : c.loop-at.at < length c.loop-at.tallies.items = omega (arith, same, c.loop-at.tallies.ok, c.args.tallies.now.ok, c.loop-at-test.true, c.len-at-end.ensures) in
    shown-more _ _ _ _ _ _ _ c.loop-at.invariant there c.index_mut.ensures.value c.in_ok-give_one.ensures.ok

pub returns-clause-ok : goal.returns-clause-ok
returns-clause-ok g c =
    shown-all (λ b. (goal.Tally-dyn g (b.vtable, b.value)).meaning b.value) c.loop-at.tallies.items c.args.tallies.now.items c.loop-at.at c.args.page.now c.loop-at.invariant (omega (arith, c.args.tallies.now.ok, c.len-at-end.ensures, c.loop-at.auto.at-end, c.loop-at-test.false))
