use Rattle.gor_flush.proofs.TopsTurned.{turn_shows_tops}
use Rattle.gor_flush.proofs.Unread.{stands_unread, unread_moments}
use Rattle.gor_flush.proofs.WithinFinish.{done_may_wait, finish_is_done, stands_raised, stands_running, stands_sealed, stops_without_done}
use Rattle.gor_flush.proofs.flush_laws.finish_laws.Goals as goal

pub returns-clause-floor : goal.returns-clause-floor
returns-clause-floor c = stands_raised

pub returns-clause-seal : goal.returns-clause-seal
returns-clause-seal c = stands_sealed

pub returns-clause-runs : goal.returns-clause-runs
returns-clause-runs c = stands_running

pub returns-clause-moments : goal.returns-clause-moments
returns-clause-moments c = unread_moments

pub returns-clause-unread : goal.returns-clause-unread
returns-clause-unread c = stands_unread

pub returns-clause-later : goal.returns-clause-later
returns-clause-later c = done_may_wait

pub returns-clause-without : goal.returns-clause-without
returns-clause-without c = stops_without_done

pub returns-clause-finish : goal.returns-clause-finish
returns-clause-finish c = finish_is_done

pub returns-clause-tops : goal.returns-clause-tops
returns-clause-tops c = turn_shows_tops
