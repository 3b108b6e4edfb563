use Rattle.std.proofs.Common.{◌≡◌, ◌++◌, take, map}
use Rattle.gor_recover.specs.Ranges.{range_of}
use Rattle.gor_recover.specs.Parts.{batch_shown}
use Rattle.gor_recover.proofs.logs.push_ranges.Given as goal

abbrev pub invariant-loop-part : goal.invariant-loop-part
invariant-loop-part l = l.ranges.items ≡ l.initial.ranges.items ++ map range_of (map batch_shown (take l.part-index l.parts))
