use Rattle.std.proofs.Common.{◌≡◌, ◌+◌, ◌≤◌, ◌++◌, length, drop}
use Rattle.gor_text.specs.Spelling.{hex_digits}
use Rattle.gor_text.proofs.piece.write_word.Given as goal

abbrev pub invariant-loop-left : goal.invariant-loop-left
invariant-loop-left l =
    (l.left ≤ 16) × (length l.bytes ≡ length l.fn.bytes)
    × (hex_digits l.left l.rest ++ drop (l.start + l.left) l.bytes ≡ hex_digits 16 l.word ++ drop (l.start + 16) l.fn.bytes)

abbrev pub decreases-loop-left : goal.decreases-loop-left
decreases-loop-left l = l.left
