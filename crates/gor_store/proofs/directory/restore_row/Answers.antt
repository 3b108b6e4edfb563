use Rattle.gor_store.proofs.Restoring.{restores_row}
use Rattle.gor_store.proofs.directory.restore_row.Goals as goal

pub returns : goal.returns
returns c = restores_row c.restore.result c.args.directory.now c.restore.new.self c.in_ok-copy.field-0 c.args.row.now c.in_ok-copy.ensures.equal c.restore.ensures.start
