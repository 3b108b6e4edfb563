use Rattle.std.proofs.Common.{length, ◌+◌, ◌≤◌, map}
use Rattle.gor_text.specs.Workloads.{phase_lines}
use Rattle.gor_text.proofs.Readings.{ReadSoFar}
use Rattle.gor_text.proofs.reader.read_accepted.Given as goal

abbrev pub invariant-loop-text : goal.invariant-loop-text
invariant-loop-text g l =
    ReadSoFar (g.A.Accepts.accepts l.accept) l.bytes l.text (map phase_lines l.reading.ended.items) (phase_lines l.reading.current) l.line
    × (l.line + length l.text ≤ length l.bytes)

abbrev pub decreases-loop-text : goal.decreases-loop-text
decreases-loop-text g l = length l.text
