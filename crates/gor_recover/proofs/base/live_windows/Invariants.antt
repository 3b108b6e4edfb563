use Rattle.std.proofs.Common.{◌≡◌, ◌++◌, drop}
use Rattle.gor_recover.specs.StoreReads.{live_from}
use Rattle.gor_recover.proofs.base.live_windows.Given as goal

abbrev pub invariant-loop-mark : goal.invariant-loop-mark
invariant-loop-mark l = l.windows.items ++ live_from l.last (drop l.mark-index l.marks) ≡ live_from l.last l.marks
