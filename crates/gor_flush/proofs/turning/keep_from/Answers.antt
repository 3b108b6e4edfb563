use Rattle.std.proofs.Common.{rules, nat_le}
use Rattle.std.proofs.lemmas.Fn.{filter_same}
use Rattle.gor_recover.specs.declared.recovered.LogTop.{LogTop}
use Rattle.gor_flush.proofs.turning.keep_from.Goals as goal

pub returns-clause-items : goal.returns-clause-items
returns-clause-items c = filter_same _ (λ (t : LogTop). nat_le c.args.first t.log) _ (λ x b f' k. search rules) _ _ c.retain.ensures.filtered
