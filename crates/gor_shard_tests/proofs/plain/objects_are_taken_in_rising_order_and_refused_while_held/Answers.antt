use Rattle.std.proofs.Common.{rules, ◌≡◌, ap, length}
use Rattle.gor_rule.specs.declared.view.View.{View}
use Rattle.gor_plain.proofs.Pairs.{first_at, second_at}
use Rattle.gor_shard_tests.proofs.plain.objects_are_taken_in_rising_order_and_refused_while_held.Goals as goal

pub take_in_rising_order-requires-clause-pass : goal.take_in_rising_order-requires-clause-pass
take_in_rising_order-requires-clause-pass g c =
    let size : length c.in_ok-hall.field-0.passes.items ≡ 2 = search rules in
    let q = c.in_ok-hall.ensures.passes.1 0 c.in-Some-Some.first (first_at _ _ _ _ _ c.in-Some-Some.second c.in-Some-Some.first c.pop.ensures.items c.in-Some-Some.is-0 c.pop-2.ensures.items c.in-Some-Some.is-1 size) in (q.0, ap (λ (v : View). v.held) q.3)

pub try_while_held-while_held-requires-clause-other : goal.try_while_held-while_held-requires-clause-other
try_while_held-while_held-requires-clause-other g c =
    let size : length c.in_ok-hall.field-0.passes.items ≡ 2 = search rules in
    let q = c.in_ok-hall.ensures.passes.1 1 c.in-Some-Some.second (second_at _ _ _ _ _ c.in-Some-Some.second c.in-Some-Some.first c.pop.ensures.items c.in-Some-Some.is-0 c.pop-2.ensures.items c.in-Some-Some.is-1 size) in (q.0, ap (λ (v : View). v.held) q.3)
