use Rattle.std.proofs.Common.{sym, subst}
use Rattle.std.specs.Prelude.{IsTrue}
use Rattle.std.specs.List.{AllByRecursion, list_any}
use Rattle.gor_recover.specs.Gathering.{has_uid}
use Rattle.gor_recover.proofs.Fillings.{FilledSoFar, one_filled, one_fails}
use Rattle.gor_recover.proofs.rows.rows.Goals as goal

pub returns-in-Err-clause-err : goal.returns-in-Err-clause-err
returns-in-Err-clause-err c = one_fails c.args.series.now c.args.names.items c.next.new.self.rest.items c.loop-named.found.items c.in-Some.named c.in-Err.fault
    (subst (λ l. FilledSoFar c.args.series.now c.args.names.items l c.loop-named.found.items) c.in-Some.ensures.steps.0 c.loop-named.invariant.so_far) c.in-Err.ensures.err

pub loop-named-preserved : goal.loop-named-preserved
loop-named-preserved c = record {
  there = (subst (AllByRecursion (λ named. IsTrue (list_any (has_uid named.uid) c.args.series.now))) c.in-Some.ensures.steps.0 c.loop-named.invariant.there).1;
  so_far = subst (λ l. FilledSoFar c.args.series.now c.args.names.items c.next.new.self.rest.items l) (sym c.in_default-push.ensures.ok)
      (one_filled c.args.series.now c.args.names.items c.next.new.self.rest.items c.loop-named.found.items c.in-Some.named c.in-Ok-filled.row
      (subst (λ l. FilledSoFar c.args.series.now c.args.names.items l c.loop-named.found.items) c.in-Some.ensures.steps.0 c.loop-named.invariant.so_far) c.in-Ok-filled.ensures.ok);
}
