use Rattle.std.proofs.Common.{List, map, subst}
use Rattle.gor_recover.specs.Recovered.{keyed_row, recovered_start}
use Rattle.gor_recover.specs.declared.recovered.RecoveredRow.{RecoveredRow}
use Rattle.gor_store.specs.Series.{CellsStand}
use Rattle.gor_store.proofs.InOrder.{next_limits, next_is}
use Rattle.gor_store.proofs.Restoring.{rows_are}
use Rattle.gor_store.proofs.values.parts_of.Goals as goal

pub cells_of-requires-clause-rows : goal.cells_of-requires-clause-rows
cells_of-requires-clause-rows c = (rows_are c.args.slots c.args.recovered.now c.deref.result.now c.deref.ensures.value c.requires).each

pub cells_of-requires-clause-apart : goal.cells_of-requires-clause-apart
cells_of-requires-clause-apart c = (rows_are c.args.slots c.args.recovered.now c.deref.result.now c.deref.ensures.value c.requires).apart

pub new-requires-clause-some : goal.new-requires-clause-some
new-requires-clause-some c = (next_limits c.args.slots c.args.recovered.now c.requires).0

pub new-requires-clause-limit : goal.new-requires-clause-limit
new-requires-clause-limit c = (next_limits c.args.slots c.args.recovered.now c.requires).1

pub returns : goal.returns
returns c = record {
  directory_is = c.in_ok-directory_of.ensures;
  count = c.in_ok-cells_of.ensures.count;
  series = subst (λ (rows : List RecoveredRow). CellsStand (map keyed_row rows) c.in_ok-cells_of.field-0.items) c.deref.ensures.value c.in_ok-cells_of.ensures.stand;
  journal_is = c.in_ok-new.ensures.start (recovered_start c.args.slots c.args.recovered.now) (next_is c.args.slots c.args.recovered.now);
}
