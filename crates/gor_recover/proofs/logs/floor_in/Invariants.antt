use Rattle.std.proofs.Common.{◌≡◌, drop, map}
use Rattle.std.specs.Prelude.{fold}
use Rattle.gor_recover.specs.LogsRead.{floor_with}
use Rattle.gor_recover.specs.Parts.{record_shown}
use Rattle.gor_recover.proofs.logs.floor_in.Given as goal

abbrev pub invariant-loop-placed : goal.invariant-loop-placed
invariant-loop-placed l = fold floor_with l.floor (map record_shown (drop l.placed-index l.records)) ≡ fold floor_with l.initial.floor (map record_shown l.records)
