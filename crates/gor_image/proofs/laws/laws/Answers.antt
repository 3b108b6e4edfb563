use Rattle.gor_image.proofs.Appending.{keys_change_nothing, both_extend}
use Rattle.gor_image.proofs.SameLists.{lists_decide, same_lists_hold}
use Rattle.gor_image.proofs.Besides.{waiting_spells}
use Rattle.gor_image.proofs.BlockFound.{block_found}
use Rattle.gor_image.proofs.Openings.{begins_itself, no_mark_is_fresh, empty_is_fresh}
use Rattle.gor_image.proofs.BlockExact.{block_exact}
use Rattle.gor_image.proofs.FreshHome.{home_is_fresh}
use Rattle.gor_image.proofs.OpenAgain.{opens_again}
use Rattle.gor_image.proofs.ReadFiles.{unread_changes_nothing}
use Rattle.gor_image.proofs.TurnImage.{mark_turns}
use Rattle.gor_image.proofs.LaterLogs.{later_logs}
use Rattle.gor_image.proofs.laws.laws.Goals as goal

pub returns-clause-lists : goal.returns-clause-lists
returns-clause-lists c = lists_decide

pub returns-clause-keys : goal.returns-clause-keys
returns-clause-keys c = keys_change_nothing

pub returns-clause-both : goal.returns-clause-both
returns-clause-both c = both_extend

pub returns-clause-waiting : goal.returns-clause-waiting
returns-clause-waiting c = waiting_spells

pub returns-clause-block : goal.returns-clause-block
returns-clause-block c = block_found

pub returns-clause-same : goal.returns-clause-same
returns-clause-same c = same_lists_hold

pub returns-clause-begins : goal.returns-clause-begins
returns-clause-begins c = begins_itself

pub returns-clause-no_mark : goal.returns-clause-no_mark
returns-clause-no_mark c = no_mark_is_fresh

pub returns-clause-empty : goal.returns-clause-empty
returns-clause-empty c = empty_is_fresh

pub returns-clause-exact : goal.returns-clause-exact
returns-clause-exact c = block_exact

pub returns-clause-home : goal.returns-clause-home
returns-clause-home c = home_is_fresh

pub returns-clause-again : goal.returns-clause-again
returns-clause-again c = opens_again

pub returns-clause-unread : goal.returns-clause-unread
returns-clause-unread c = unread_changes_nothing

pub returns-clause-turns : goal.returns-clause-turns
returns-clause-turns c = mark_turns

pub returns-clause-later : goal.returns-clause-later
returns-clause-later c = later_logs
