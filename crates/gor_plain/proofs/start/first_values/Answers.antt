use Rattle.std.proofs.Common.{rules}
use Rattle.gor_plain.proofs.Firsts.{first}
use Rattle.gor_plain.proofs.start.first_values.Goals as goal

pub returns : goal.returns
returns c = first c.first_device.result c.in_ok-directory.directory c.in_ok-cell.cell c.first_journal.result
    c.first_device.ensures c.in_ok-directory.ensures c.in_ok-cell.ensures c.first_journal.ensures.share c.first_journal.ensures.weight _ (search rules)
