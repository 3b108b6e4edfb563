use Rattle.std.proofs.Common.{drop}
use Rattle.gor_cell.proofs.Picks.{Picking}
use Rattle.gor_cell.proofs.copied.Copied.points.Given as goal

abbrev pub invariant-loop-block : goal.invariant-loop-block
invariant-loop-block l = Picking l.fn.self.from l.fn.self.to l.fn.self.floor l.block-items (drop l.block-index l.block-items) l.found
