use Rattle.std.proofs.Common.{◌≡◌, take, false}
use Rattle.std.specs.List.{AllByRecursion}
use Rattle.gor_flush.specs.NextMarks.{is_later}
use Rattle.gor_flush.proofs.turning.first_needed.Given as goal

abbrev pub invariant-loop-log : goal.invariant-loop-log
invariant-loop-log l = AllByRecursion (λ t. is_later l.window t.top ≡ false) (take l.log-index l.tops)
