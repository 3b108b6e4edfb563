use Rattle.std.proofs.Common.{◌<◌, length, take, ap, ◌∙◌, arith}
use Rattle.gor_tally.proofs.FeedLaws.{on_err, none_fed, page_fed, fed_no_more, fed_in_part}
use Rattle.gor_tally.proofs.feeding.feed.Goals as goal

pub loop-fed-init : goal.loop-fed-init
loop-fed-init g c = none_fed c.args.page c.as_slice-points.result.now _

pub returns-in_err-next-clause-err : goal.returns-in_err-next-clause-err
returns-in_err-next-clause-err g c =
    let more : c.loop-fed.fed < length c.as_slice-points.result.now = omega (arith, c.loop-fed-test.true) in
    on_err c.from_residual.result (fed_no_more c.args.page c.loop-fed.fed c.as_slice-points.result.now c.args.points.now _ _ c.loop-fed.invariant more c.as_slice-points.ensures)

pub returns-in_err-give-clause-err : goal.returns-in_err-give-clause-err
returns-in_err-give-clause-err g c =
    let more : c.loop-fed.fed < length c.as_slice-points.result.now = omega (arith, c.loop-fed-test.true) in
    on_err c.from_residual-in_err-give.result (fed_in_part c.args.page c.loop-fed.fed c.as_slice-points.result.now c.args.points.now _ _ _ _ c.loop-fed.invariant more
    (c.in_ok-next.ensures ∙ ap (take c.args.page) c.split_at.ensures.back) c.in_err-give.ensures.err c.as_slice-points.ensures)

pub loop-fed-preserved : goal.loop-fed-preserved
loop-fed-preserved g c =
    let more : c.loop-fed.fed < length c.as_slice-points.result.now = omega (arith, c.loop-fed-test.true) in
    page_fed c.args.page c.loop-fed.fed c.len-fed.result c.as_slice-points.result.now _ _ _ _ c.loop-fed.invariant more (c.in_ok-next.ensures ∙ ap (take c.args.page) c.split_at.ensures.back) c.in_ok-give.ensures.ok c.len-fed.ensures
