use Rattle.std.proofs.Common.{◌<◌, length}
use Rattle.gor_run.proofs.InputParts.{ReadSoFar}
use Rattle.gor_run.proofs.input.read_input.Given as goal

abbrev pub invariant-loop-turn : goal.invariant-loop-turn
invariant-loop-turn g l =
    ReadSoFar (g.S.Source.left l.fn.source) (g.S.Source.left l.source) (g.S.Source.faults l.fn.source) (g.S.Source.faults l.source) (g.S.Source.reads l.fn.source) (g.S.Source.reads l.source)
    l.bytes.items l._turn × (0 < length l.piece.items)
