use Rattle.std.proofs.Common.{drop, ap, ◌∙◌, subst, ◌≡◌, ◌+◌, ◌≤◌, vec_len, vec_capacity}
use Rattle.gor_gate.specs.Gates.{gates}
use Rattle.gor_flush.proofs.Touched.{with_items, not_empty, same_room}
use Rattle.gor_flush.proofs.append.append_body.Goals as goal

pub returns-then-is_err-clause-any_moment : goal.returns-then-is_err-clause-any_moment
returns-then-is_err-clause-any_moment g c = λ t.
    with_items c.args.gated.now.file (gates ((g.D.Disk.view c.args.disk.now).seen c.args.gated.now.file)) c.args.bytes.now.items c.of-frame.result.body (g.D.Disk.view c.args.disk.now) (g.D.Disk.view c.append-outcome.new.disk)
    (subst (λ n. 1 ≤ n) c.args.bytes.now.ok.0 (not_empty (vec_len c.args.bytes.now) c.is_empty.result c.is_empty.ensures c.if-is_empty.false))
    (c.of-frame.ensures.body ∙ ap (λ v. drop 8 v.items) c.replace.ensures.value) (c.append-outcome.ensures.any_moment t)

pub returns-then-is_err-clause-room : goal.returns-then-is_err-clause-room
returns-then-is_err-clause-room g c =
    same_room c.args.bytes.now c.into_bytes.result c.of-frame.result.body c.of-frame.result.spare
    (c.requires.head (not_empty (vec_len c.args.bytes.now) c.is_empty.result c.is_empty.ensures c.if-is_empty.false))
    c.into_bytes.ensures.long
    (c.of-frame.ensures.body ∙ ap (λ v. drop 8 v.items) c.replace.ensures.value)
    (c.into_bytes.ensures.body ∙ c.append-outcome.ensures.frame)
    (subst (λ v. vec_len v + 1 + c.of-frame.result.spare ≡ vec_capacity v) c.replace.ensures.value c.of-frame.ensures.spare)
    (subst (λ s. vec_len c.into_bytes.result + 1 + s ≡ vec_capacity c.into_bytes.result) c.append-outcome.ensures.spare c.into_bytes.ensures.spare)

pub returns-clause-any_moment : goal.returns-clause-any_moment
returns-clause-any_moment g c = λ t.
    with_items c.args.gated.now.file (gates ((g.D.Disk.view c.args.disk.now).seen c.args.gated.now.file)) c.args.bytes.now.items c.of-frame.result.body (g.D.Disk.view c.args.disk.now) (g.D.Disk.view c.append-outcome.new.disk)
    (subst (λ n. 1 ≤ n) c.args.bytes.now.ok.0 (not_empty (vec_len c.args.bytes.now) c.is_empty.result c.is_empty.ensures c.if-is_empty.false))
    (c.of-frame.ensures.body ∙ ap (λ v. drop 8 v.items) c.replace.ensures.value) (c.append-outcome.ensures.any_moment t)

pub returns-clause-room : goal.returns-clause-room
returns-clause-room g c = c.clear.ensures.capacity ∙
    same_room c.args.bytes.now c.into_bytes.result c.of-frame.result.body c.of-frame.result.spare
    (c.requires.head (not_empty (vec_len c.args.bytes.now) c.is_empty.result c.is_empty.ensures c.if-is_empty.false))
    c.into_bytes.ensures.long
    (c.of-frame.ensures.body ∙ ap (λ v. drop 8 v.items) c.replace.ensures.value)
    (c.into_bytes.ensures.body ∙ c.append-outcome.ensures.frame)
    (subst (λ v. vec_len v + 1 + c.of-frame.result.spare ≡ vec_capacity v) c.replace.ensures.value c.of-frame.ensures.spare)
    (subst (λ s. vec_len c.into_bytes.result + 1 + s ≡ vec_capacity c.into_bytes.result) c.append-outcome.ensures.spare c.into_bytes.ensures.spare)
