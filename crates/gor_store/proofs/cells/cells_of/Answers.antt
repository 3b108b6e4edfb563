use Rattle.std.proofs.Common.{rules, arith}
use Rattle.gor_model.specs.Starts.{IsRow}
use Rattle.gor_recover.specs.Recovered.{keyed_row}
use Rattle.gor_store.proofs.Places.{there}
use Rattle.gor_store.proofs.Slots.{row_cells}
use Rattle.gor_store.proofs.cells.cells_of.Goals as goal

pub cell_of-requires : goal.cell_of-requires
cell_of-requires c = (c.args.slots, there keyed_row (λ q. IsRow c.args.slots q.0 q.1) c.args.rows.now c.loop-row.row-index c.row-item.result c.loop-row-test.true c.row-item.is c.requires.rows)

pub index_mut-requires : goal.index_mut-requires
index_mut-requires c =
    let row = there keyed_row (λ q. IsRow c.args.slots q.0 q.1) c.args.rows.now c.loop-row.row-index c.row-item.result c.loop-row-test.true c.row-item.is c.requires.rows in
    let low = row.slot in
    let count = c.loop-row.invariant.count in
    omega (arith, low, count)

pub loop-row-preserved : goal.loop-row-preserved
loop-row-preserved c = record {
  count = search rules;
  stand = row_cells c.args.rows.now c.loop-row.row-index c.row-item.result c.loop-row.cells.items c.in_ok-cells-2.field-0 c.loop-row-test.true c.row-item.is c.requires.apart c.loop-row.invariant.stand c.in_ok-cells-2.ensures;
}
