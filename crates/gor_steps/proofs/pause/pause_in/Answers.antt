use Rattle.std.proofs.Common.{rules}
use Rattle.gor_steps.proofs.PauseLaws.{pauses_now}
use Rattle.gor_steps.proofs.pause.pause_in.Goals as goal

pub returns-clause-paused : goal.returns-clause-paused
returns-clause-paused g c = pauses_now _ c.args.pass.now c.allow_pause-permit.new.pass c.args.slot c.args.number c.allow_pause-permit.ensures.paused c.requires.held c.requires.event (search rules)
