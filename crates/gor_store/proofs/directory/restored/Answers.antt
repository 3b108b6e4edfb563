use Rattle.gor_store.proofs.Restoring.{next_absent, next_free, next_row}
use Rattle.gor_store.proofs.directory.restored.Goals as goal

pub restore_row-requires-clause-absent : goal.restore_row-requires-clause-absent
restore_row-requires-clause-absent c = next_absent c.args.slots c.args.rows.now c.requires c.loop-row.row-index c.row-item.result c.loop-row-test.true c.row-item.is c.loop-row.directory c.loop-row.invariant

pub restore_row-requires-clause-free : goal.restore_row-requires-clause-free
restore_row-requires-clause-free c = next_free c.args.slots c.args.rows.now c.requires c.loop-row.row-index c.row-item.result c.loop-row-test.true c.row-item.is c.loop-row.directory c.loop-row.invariant

pub loop-row-preserved : goal.loop-row-preserved
loop-row-preserved c =
    next_row c.args.slots c.args.rows.now c.requires c.loop-row.row-index c.row-item.result c.loop-row-test.true c.row-item.is c.loop-row.directory c.restore_row.new.directory c.in_ok-restore_row.ensures c.loop-row.invariant
