use Rattle.std.proofs.Common.{◌≡◌, drop, map}
use Rattle.std.specs.Prelude.{fold}
use Rattle.gor_recover.specs.LogsRead.{floor_with}
use Rattle.gor_recover.specs.Parts.{batch_shown}
use Rattle.gor_recover.proofs.logs.floor_of.Given as goal

abbrev pub invariant-loop-part : goal.invariant-loop-part
invariant-loop-part l = fold (λ f b. fold floor_with f b.records) l.floor (map batch_shown (drop l.part-index l.parts)) ≡ fold (λ f b. fold floor_with f b.records) l.initial.floor (map batch_shown l.parts)
