use Rattle.std.proofs.Common.{take}
use Rattle.std.specs.List.{AllByRecursion}
use Rattle.gor_name.specs.Refusals.{IsPlain}
use Rattle.gor_name.proofs.name.check.Given as goal

abbrev pub invariant-loop-at : goal.invariant-loop-at
invariant-loop-at l = AllByRecursion IsPlain (take l.at l.byte-items)
