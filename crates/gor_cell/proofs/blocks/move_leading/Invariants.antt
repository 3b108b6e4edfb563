use Rattle.std.proofs.Common.{take}
use Rattle.std.specs.Vec.Iter.{drain_items}
use Rattle.gor_cell.proofs.Moves.{Moving}
use Rattle.gor_cell.proofs.blocks.move_leading.Given as goal

abbrev pub invariant-loop-block : goal.invariant-loop-block
invariant-loop-block l = Moving l.window (take l.count l.fn.later.items) l.fn.sealed (drain_items l.block-iterator) l.sealed
