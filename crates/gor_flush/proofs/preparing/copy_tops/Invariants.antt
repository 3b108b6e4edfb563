use Rattle.std.proofs.Common.{◌≡◌, take}
use Rattle.gor_flush.proofs.preparing.copy_tops.Given as goal

abbrev pub invariant-loop-shown : goal.invariant-loop-shown
invariant-loop-shown l = record { copied : l.copy.items ≡ take l.shown-index l.tops }
