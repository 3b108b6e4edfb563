use Rattle.gor_cell.proofs.cell.Cell.seal.Goals as goal

pub returns-in-Some-clause-share : goal.returns-in-Some-clause-share
returns-in-Some-clause-share c = rw c.in-Some.is c.seal.ensures.share
