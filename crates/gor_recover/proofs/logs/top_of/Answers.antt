use Rattle.std.proofs.Common.{map, sym, ap, ◌∙◌}
use Rattle.std.specs.Prelude.{fold}
use Rattle.gor_recover.specs.LogsRead.{top_with}
use Rattle.gor_recover.specs.Parts.{batch_shown}
use Rattle.gor_recover.proofs.Heights.{drop_end, tops}
use Rattle.gor_recover.proofs.logs.top_of.Goals as goal

pub returns : goal.returns
returns c = sym (ap (λ l. fold (λ top b. fold top_with top b.records) c.loop-part.top (map batch_shown l)) (drop_end c.args.parts.now c.loop-part.part-index c.loop-part-test.false)) ∙ (c.loop-part.invariant.whole ∙ tops (map batch_shown c.args.parts.now))
