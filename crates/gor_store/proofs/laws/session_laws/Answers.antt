use Rattle.gor_store.proofs.Sessions.{session_stands, session_is_whole}
use Rattle.gor_store.proofs.OpenAgain.{images_open_again}
use Rattle.gor_store.proofs.laws.session_laws.Goals as goal

pub returns-clause-stands : goal.returns-clause-stands
returns-clause-stands g c = session_stands g.D.Disk.tells g.D.Disk.view g.D.Disk.faults

pub returns-clause-whole : goal.returns-clause-whole
returns-clause-whole g c = session_is_whole g.D.Disk.tells g.D.Disk.view g.D.Disk.faults

pub returns-clause-again : goal.returns-clause-again
returns-clause-again g c = images_open_again g.D.Disk.tells g.D.Disk.view g.D.Disk.faults
