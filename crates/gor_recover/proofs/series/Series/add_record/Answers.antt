use Rattle.std.proofs.Common.{refl}
use Rattle.gor_log.specs.declared.record.LogRecord.TheVariants.{Floor}
use Rattle.gor_recover.specs.Gathering.{with_log}
use Rattle.gor_recover.proofs.Stepping.{no_step}
use Rattle.gor_recover.proofs.series.Series.add_record.Goals as goal

pub returns-in-Floor : goal.returns-in-Floor
returns-in-Floor c = rw c.in-Floor.is (no_step (with_log c.args.base c.args.log c.args.placed.now.at (Floor c.in-Floor.window)) c.args.self.now (λ g. refl))
