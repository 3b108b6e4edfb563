use Rattle.gor_dir.proofs.Steps.{kept-new}
use Rattle.gor_dir.proofs.StartSteps.{shown-bare}
use Rattle.gor_dir.proofs.directory.Directory.new.Goals as goal

pub invariant_of-result : goal.invariant_of-result
invariant_of-result c = kept-new c.args.slots c.in_ok-new.field-0.capacity c.new.result.rows c.in_ok-new.field-0.free c.ranges.slots.fits c.in_ok-new.ensures.room c.new.ensures c.in_ok-new.ensures.free

pub returns : goal.returns
returns c = record { start = shown-bare c.args.slots c.new.result.rows c.in_ok-new.field-0.free c.new.result.spare c.new.ensures c.in_ok-new.ensures.free }
