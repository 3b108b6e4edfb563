use Rattle.gor_store.proofs.PhaseLaws.{worked}
use Rattle.gor_store.proofs.phases.Lane.run.Goals as goal

pub returns : goal.returns
returns g c = worked _ _ _ _ _ c.run_lane-done.ensures.rests c.run_lane-done.result c.is_ok-self.ensures.value c.run_lane-done.ensures.runs c.run_lane-done.ensures.err
