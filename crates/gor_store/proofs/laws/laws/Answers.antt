use Rattle.gor_store.proofs.Stories.{one_history, one_history_begins}
use Rattle.gor_store.proofs.BegunLaws.{refused_makes_none, flush_follows_due}
use Rattle.gor_store.proofs.LastEvents.{later_is_last, later_is_in_order}
use Rattle.gor_store.proofs.Works.{work_starts, phase_is_done, last_is_done, work_is_counted, added_is_later, work_is_told, work_is_closed}
use Rattle.gor_store.proofs.WorkedStory.{worked_story}
use Rattle.gor_store.proofs.laws.laws.Goals as goal

pub returns-clause-begins : goal.returns-clause-begins
returns-clause-begins c = one_history_begins

pub returns-clause-one_history : goal.returns-clause-one_history
returns-clause-one_history c = one_history

pub returns-clause-starts : goal.returns-clause-starts
returns-clause-starts c = work_starts

pub returns-clause-phase : goal.returns-clause-phase
returns-clause-phase c = phase_is_done

pub returns-clause-last : goal.returns-clause-last
returns-clause-last c = last_is_done

pub returns-clause-counted : goal.returns-clause-counted
returns-clause-counted c = work_is_counted

pub returns-clause-later : goal.returns-clause-later
returns-clause-later c = added_is_later

pub returns-clause-told : goal.returns-clause-told
returns-clause-told c = work_is_told

pub returns-clause-closed : goal.returns-clause-closed
returns-clause-closed c = work_is_closed

pub returns-clause-worked : goal.returns-clause-worked
returns-clause-worked c = worked_story

pub returns-clause-no_others : goal.returns-clause-no_others
returns-clause-no_others c = later_is_last

pub returns-clause-in_order : goal.returns-clause-in_order
returns-clause-in_order c = later_is_in_order

pub returns-clause-refused : goal.returns-clause-refused
returns-clause-refused c = refused_makes_none

pub returns-clause-due : goal.returns-clause-due
returns-clause-due c = flush_follows_due
