use Rattle.std.proofs.Common.{◌≡◌, ◌+◌, ◌<◌, ℕ, List, Some, sym, ap, subst, ◌∙◌, inl, inr, refl, arith}
use Rattle.gor_model.specs.declared.start.Start.{Start}
use Rattle.gor_model.specs.Objects.{Has}
use Rattle.gor_hall.specs.Halls.{start_of}
use Rattle.gor_hall.specs.Passes.{view}
use Rattle.gor_steps.proofs.FinishLaws.{device_stays}
use Rattle.gor_steps.proofs.SealLaws.{raised_stays, below_stays, none_from, none_on, on_err, seals_from}
use Rattle.gor_steps.proofs.ViewLaws.{series_stays}
use Rattle.gor_steps.proofs.seals.seal_one.Goals as goal

pub seal-requires-clause-raised : goal.seal-requires-clause-raised
seal-requires-clause-raised g c =
    let v = view c.args.pass.now in let w = view c.take_series-cell.new.pass in
    let one = c.take_series-cell.ensures in
    let top = subst (λ (z : List ℕ). Has z 0) (sym c.requires.pass.1) (inl refl) in
    let kept = device_stays v w one.took.none.start (one.took.shares 0 top) in
    let x = view c.take_journal-journal.new.pass in let two = c.take_journal-journal.ensures in
    let top1 = subst (λ (z : List ℕ). Has z 0) (sym one.took.held) (inr top) in
    let kept2 = device_stays w x two.took.none.start (two.took.shares 0 top1) in
    raised_stays c.args.window w x two.took.none.start two.took.none.seen kept2 (raised_stays c.args.window v w one.took.none.start one.took.none.seen kept c.requires.raised)

pub seal-requires-clause-stands : goal.seal-requires-clause-stands
seal-requires-clause-stands g c =
    let w = view c.take_series-cell.new.pass in let x = view c.take_journal-journal.new.pass in
    let one = c.take_series-cell.ensures in let two = c.take_journal-journal.ensures in
    let has = subst (λ (z : List ℕ). Has z (c.args.slot + 2)) (sym one.took.held) (inl refl) in
    let low = subst (λ (z : Start). c.args.slot < z.slots) (sym one.pass.0.start) c.requires.slot in
    let slots : (start_of c.args.shard.now).slots + 2 ≡ x.start.slots + 2 = ap (λ (z : Start). z.slots + 2) (sym two.pass.0.start) in
    record {
      low = subst (λ (z : Start). c.args.slot < z.slots) (sym two.pass.0.start) c.requires.slot;
      held_series = subst (λ (z : List ℕ). Has z (c.args.slot + 2)) (sym two.took.held) (inr has);
      held_journal = subst (Has x.held) slots (subst (λ (z : List ℕ). Has z ((start_of c.args.shard.now).slots + 2)) (sym two.took.held) (inl refl));
      series = series_stays w x two.took.none.start c.args.slot c.take_series-cell.result low (two.took.shares (c.args.slot + 2) has) one.stands;
      journal = two.stands;
    }

pub returns-then-not-is_open-clause-seals : goal.returns-then-not-is_open-clause-seals
returns-then-not-is_open-clause-seals g c =
    let v = view c.args.pass.now in let w = view c.take_series-cell.new.pass in
    let one = c.take_series-cell.ensures in
    let top = subst (λ (z : List ℕ). Has z 0) (sym c.requires.pass.1) (inl refl) in
    let kept = device_stays v w one.took.none.start (one.took.shares 0 top) in
    none_from c.args.pass.now c.take_series-cell.new.pass c.pass_by.new.pass one.took.none (one.pass.0.lane ∙ (ap Some one.pass.1 ∙ sym c.requires.pass.0.lane)) (let a = one.pass.2 in omega arith) kept c.pass_by.ensures.none

pub returns-then-not-is_open-clause-raised : goal.returns-then-not-is_open-clause-raised
returns-then-not-is_open-clause-raised g c =
    let v = view c.args.pass.now in let w = view c.take_series-cell.new.pass in
    let one = c.take_series-cell.ensures in
    let top = subst (λ (z : List ℕ). Has z 0) (sym c.requires.pass.1) (inl refl) in
    let kept = device_stays v w one.took.none.start (one.took.shares 0 top) in
    c.pass_by.ensures.raised c.args.window (raised_stays c.args.window v w one.took.none.start one.took.none.seen kept c.requires.raised)

pub returns-then-not-is_open-clause-below : goal.returns-then-not-is_open-clause-below
returns-then-not-is_open-clause-below g c =
    let v = view c.args.pass.now in let w = view c.take_series-cell.new.pass in
    let one = c.take_series-cell.ensures in
    let top = subst (λ (z : List ℕ). Has z 0) (sym c.requires.pass.1) (inl refl) in
    let kept = device_stays v w one.took.none.start (one.took.shares 0 top) in
    λ are. c.pass_by.ensures.below c.args.window (raised_stays c.args.window v w one.took.none.start one.took.none.seen kept c.requires.raised) (sym c.is_open.ensures ∙ c.if-not-is_open.true)
    (below_stays c.args.window c.args.slot v w one.took.none.start one.took.none.seen are)

pub returns-in_err-reply-clause-kept : goal.returns-in_err-reply-clause-kept
returns-in_err-reply-clause-kept g c =
    let v = view c.args.pass.now in let w = view c.take_series-cell.new.pass in
    let one = c.take_series-cell.ensures in
    let top = subst (λ (z : List ℕ). Has z 0) (sym c.requires.pass.1) (inl refl) in
    let kept = device_stays v w one.took.none.start (one.took.shares 0 top) in
    let x = view c.take_journal-journal.new.pass in let two = c.take_journal-journal.ensures in
    let top1 = subst (λ (z : List ℕ). Has z 0) (sym one.took.held) (inr top) in
    let kept2 = device_stays w x two.took.none.start (two.took.shares 0 top1) in
    on_err c.from_residual.result (c.in_err-reply.ensures.kept ∙ (kept2 ∙ kept))

pub returns-clause-seals : goal.returns-clause-seals
returns-clause-seals g c =
    let v = view c.args.pass.now in let w = view c.take_series-cell.new.pass in
    let one = c.take_series-cell.ensures in
    let top = subst (λ (z : List ℕ). Has z 0) (sym c.requires.pass.1) (inl refl) in
    let kept = device_stays v w one.took.none.start (one.took.shares 0 top) in
    let x = view c.take_journal-journal.new.pass in let two = c.take_journal-journal.ensures in
    let top1 = subst (λ (z : List ℕ). Has z 0) (sym one.took.held) (inr top) in
    let kept2 = device_stays w x two.took.none.start (two.took.shares 0 top1) in
    seals_from c.args.pass.now c.take_journal-journal.new.pass c.seal.new.pass c.args.slot c.args.first c.args.window c.in_ok-reply.reply (none_on v w x one.took.none two.took.none) (two.pass.1 ∙ one.pass.1)
    (let a = one.pass.2 in let b = two.pass.2 in omega arith) (kept2 ∙ kept) c.in_ok-reply.ensures.seals

pub returns-clause-below : goal.returns-clause-below
returns-clause-below g c =
    let v = view c.args.pass.now in let w = view c.take_series-cell.new.pass in
    let one = c.take_series-cell.ensures in
    let top = subst (λ (z : List ℕ). Has z 0) (sym c.requires.pass.1) (inl refl) in
    let kept = device_stays v w one.took.none.start (one.took.shares 0 top) in
    let x = view c.take_journal-journal.new.pass in let two = c.take_journal-journal.ensures in
    let top1 = subst (λ (z : List ℕ). Has z 0) (sym one.took.held) (inr top) in
    let kept2 = device_stays w x two.took.none.start (two.took.shares 0 top1) in
    λ are. c.in_ok-reply.ensures.below (below_stays c.args.window c.args.slot w x two.took.none.start two.took.none.seen (below_stays c.args.window c.args.slot v w one.took.none.start one.took.none.seen are))
