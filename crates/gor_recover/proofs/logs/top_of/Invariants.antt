use Rattle.std.proofs.Common.{◌≡◌, None, drop, map}
use Rattle.std.specs.Prelude.{fold}
use Rattle.std.specs.List.{AllByRecursion}
use Rattle.gor_recover.specs.LogsRead.{BatchInLimits, top_with}
use Rattle.gor_recover.specs.Parts.{batch_shown}
use Rattle.gor_recover.proofs.logs.top_of.Given as goal

abbrev pub invariant-loop-part : goal.invariant-loop-part
invariant-loop-part l = record {
  limits : AllByRecursion BatchInLimits (map batch_shown (drop l.part-index l.parts));
  whole : fold (λ top b. fold top_with top b.records) l.top (map batch_shown (drop l.part-index l.parts)) ≡ fold (λ top b. fold top_with top b.records) None (map batch_shown l.parts);
}
