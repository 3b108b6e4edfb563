use Rattle.std.proofs.Common.{◌≡◌, take}
use Rattle.gor_model.specs.Windows.{kept}
use Rattle.gor_recover.proofs.rows.kept.Given as goal

abbrev pub invariant-loop-point : goal.invariant-loop-point
invariant-loop-point l = l.found ≡ kept l.fn.floor (take l.point-index l.points)
