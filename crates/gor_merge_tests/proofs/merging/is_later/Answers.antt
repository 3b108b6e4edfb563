use Rattle.std.proofs.Common.{◌≡◌, ◌-◌, length, ap, ◌∙◌, arith}
use Rattle.std.specs.Prelude.{Some, None, slice_get}
use Rattle.std.proofs.lemmas.Bool.{ltb-true}
use Rattle.std.proofs.lemmas.Option.{same_Some, none-some}
use Rattle.gor_model.specs.declared.point.Point.{Point}
use Rattle.gor_merge_tests.proofs.Rising.{may_follow}
use Rattle.gor_merge_tests.proofs.merging.is_later.Goals as goal

pub returns-in-Some : goal.returns-in-Some
returns-in-Some c = λ later.
    let place : c.saturating_sub.result ≡ length c.args.points.now - 1 = omega (arith, c.saturating_sub.ensures, c.len.ensures) in
    let found : Some c.in-Some.last ≡ slice_get c.args.points.now (length c.args.points.now - 1) = c.in-Some.ensures ∙ ap (slice_get c.args.points.now) place in
    may_follow c.args.points.now c.args.point c.requires
    (λ last is. let same : c.in-Some.last ≡ last = same_Some c.in-Some.last last (found ∙ is) in
    omega (arith, ltb-true c.in-Some.last.time c.args.point.time later, ap (λ (p : Point). p.time) same))

pub returns-in-None : goal.returns-in-None
returns-in-None c = λ later.
    let place : c.saturating_sub.result ≡ length c.args.points.now - 1 = omega (arith, c.saturating_sub.ensures, c.len.ensures) in
    let found : None ≡ slice_get c.args.points.now (length c.args.points.now - 1) = c.in-None.ensures ∙ ap (slice_get c.args.points.now) place in
    may_follow c.args.points.now c.args.point c.requires (λ last is. absurd (none-some last (found ∙ is)))
