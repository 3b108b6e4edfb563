use Rattle.std.proofs.Common.{sym, subst}
use Rattle.gor_recover.specs.StoreReads.{IsBasedOn}
use Rattle.gor_recover.proofs.MarksEnd.{based_last}
use Rattle.gor_recover.proofs.base.based_on.Goals as goal

pub returns : goal.returns
returns c = λ shards shard are. subst (IsBasedOn c.args.marks.now) (sym c.told_by.ensures) (based_last shards shard c.args.marks.now _ c.requires.some are)
