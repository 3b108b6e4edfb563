use Rattle.std.proofs.Common.{map, sym, ap, ◌∙◌}
use Rattle.std.specs.Prelude.{fold}
use Rattle.gor_recover.specs.LogsRead.{floor_with}
use Rattle.gor_recover.specs.Parts.{batch_shown}
use Rattle.gor_recover.proofs.Heights.{drop_end, floors}
use Rattle.gor_recover.proofs.logs.floor_of.Goals as goal

pub returns : goal.returns
returns c = sym (ap (λ l. fold (λ f b. fold floor_with f b.records) c.loop-part.floor (map batch_shown l)) (drop_end c.args.parts.now c.loop-part.part-index c.loop-part-test.false)) ∙ (c.loop-part.invariant ∙ floors c.args.floor (map batch_shown c.args.parts.now))
