use Rattle.std.proofs.Common.{◌≡◌, ℕ, ◌+◌, ◌-◌, ◌^◌, ◌<◌, List, length, ap, rules}
use Rattle.std.specs.Prelude.{min}
use Rattle.gor_tally.specs.declared.rule.Rule.TheVariants.{Count}
use Rattle.gor_tally.proofs.StepLaws.{counts_on}
use Rattle.gor_tally.proofs.counter.CounterTally.take.Goals as goal

pub returns-clause-ok : goal.returns-clause-ok
returns-clause-ok c =
    let few : c.args.self.now < 2 ^ 64 = search rules in
    let counted : c.with_more-self-inside.result ≡ min (c.args.self.now + length c.args.points.now) (2 ^ 64 - 1) = search rules in
    ap (λ (s : List ℕ). record { rule = Count; state = s }) (counts_on c.args.self.now _ c.args.points.now few counted)
