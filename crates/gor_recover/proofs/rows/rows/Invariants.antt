use Rattle.std.specs.Prelude.{IsTrue}
use Rattle.std.specs.List.{AllByRecursion, list_any}
use Rattle.gor_recover.specs.Gathering.{has_uid}
use Rattle.gor_recover.proofs.Fillings.{FilledSoFar}
use Rattle.gor_recover.proofs.rows.rows.Given as goal

abbrev pub invariant-loop-named : goal.invariant-loop-named
invariant-loop-named l = record {
  there : AllByRecursion (λ named. IsTrue (list_any (has_uid named.uid) l.series)) l.named-iterator.rest.items;
  so_far : FilledSoFar l.series l.fn.names.items l.named-iterator.rest.items l.found.items;
}
