use Rattle.std.proofs.Common.{◌<◌, sym, subst}
use Rattle.gor_model.specs.Lists.{EachBefore}
use Rattle.gor_model.specs.declared.point.Point.{Point}
use Rattle.gor_store.proofs.PointLaws.{one_more}
use Rattle.gor_store.proofs.cells.put_points.Goals as goal

pub loop-point-preserved : goal.loop-point-preserved
loop-point-preserved c =
    one_more c.args.row.now c.as_slice-points.result.now c.loop-point.point-index _ c.loop-point.cell.live c.put_point.new.cell.live c.loop-point-test.true
    (subst (EachBefore (λ (p : Point) (q : Point). p.time < q.time)) (sym c.as_slice-points.ensures) c.requires.series.1.rising) c.in_ok-put_point.ensures c.loop-point.invariant
