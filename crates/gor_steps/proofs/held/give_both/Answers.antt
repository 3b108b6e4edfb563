use Rattle.std.proofs.Common.{◌≢◌, ◌+◌, ℕ, List, sym, ap, subst, arith}
use Rattle.gor_model.specs.Objects.{Has}
use Rattle.gor_rule.specs.declared.view.View.{View}
use Rattle.gor_hall.specs.Halls.{start_of}
use Rattle.gor_hall.specs.Passes.{view}
use Rattle.gor_steps.proofs.ViewLaws.{has_without}
use Rattle.gor_steps.proofs.held.give_both.Goals as goal

pub give_series-requires-clause-pass : goal.give_series-requires-clause-pass
give_series-requires-clause-pass g c =
    let apart : c.args.slot + 2 ≢ (start_of c.args.shard.now).slots + 2 = λ same. let low = c.requires.slot in omega arith in
    let held = ap (λ (z : View). z.held) c.give_journal.ensures.gave in
    (c.give_journal.ensures.pass.0, subst (λ (z : List ℕ). Has z (c.args.slot + 2)) (sym held) (has_without ((start_of c.args.shard.now).slots + 2) (c.args.slot + 2) apart (view c.args.pass.now).held c.requires.stands.held_series))
