use Rattle.std.proofs.Common.{◌≡◌, ℕ, ◌+◌, ◌∷◌, [], List, None, refl, sym, ap, subst, ◌∙◌, inl, inr}
use Rattle.gor_model.specs.declared.start.Start.{Start}
use Rattle.gor_model.specs.Names.{key_of}
use Rattle.gor_model.specs.Objects.{Has}
use Rattle.gor_rule.specs.declared.view.View.{View}
use Rattle.gor_hall.specs.Passes.{view}
use Rattle.gor_hall.specs.Steps.{HasMarked}
use Rattle.gor_steps.specs.Dels.{del_reply, del_event}
use Rattle.gor_steps.specs.Views.{HasDirectory}
use Rattle.gor_steps.specs.declared.dels.DelAnswer.{DelAnswer}
use Rattle.gor_steps.proofs.DelLaws.{del_missed, del_may, missed_quiet}
use Rattle.gor_steps.proofs.ViewLaws.{directory_on, journal_on}
use Rattle.gor_steps.proofs.dels.refuse.Goals as goal

pub mark-number-requires-clause-event : goal.mark-number-requires-clause-event
mark-number-requires-clause-event g c =
    let v = view c.args.pass.now in
    let key = key_of c.args.name.now in
    let held : v.held ≡ (v.start.slots + 2) ∷ 1 ∷ [] = c.requires.pass.2 ∙ ap (λ (z : Start). (z.slots + 2) ∷ 1 ∷ []) (sym c.requires.pass.0.start) in
    let has : (o : ℕ) → Has ((v.start.slots + 2) ∷ 1 ∷ []) o → Has v.held o = λ o h. subst (λ (z : List ℕ). Has z o) (sym held) h in
    let told = del_missed v c.requires.sound c.lane.result key c.args.directory c.args.journal c.requires.index c.requires.log c.requires.absent ∙ ap del_reply (sym c.answer_absent-answer.ensures) in
    let m = del_may v c.requires.sound c.lane.result key c.args.directory c.args.journal c.requires.index c.requires.log None c.answer_absent-answer.result c.requires.absent told (λ o h. has o (turn v o h)) in
    (c.lane.ensures, c.requires.pass.1, m.0, m.1) where
      turn : (v : View) (o : ℕ) → Has (1 ∷ (v.start.slots + 2) ∷ []) o → Has ((v.start.slots + 2) ∷ 1 ∷ []) o
      turn v o (inl is) = inr (inl is)
      turn v o (inr (inl is)) = inl is
      turn v o (inr (inr none)) = absurd none

pub give_journal-requires-clause-stands : goal.give_journal-requires-clause-stands
give_journal-requires-clause-stands g c =
    let v = view c.args.pass.now in
    let key = key_of c.args.name.now in
    let held : v.held ≡ (v.start.slots + 2) ∷ 1 ∷ [] = c.requires.pass.2 ∙ ap (λ (z : Start). (z.slots + 2) ∷ 1 ∷ []) (sym c.requires.pass.0.start) in
    let has : (o : ℕ) → Has ((v.start.slots + 2) ∷ 1 ∷ []) o → Has v.held o = λ o h. subst (λ (z : List ℕ). Has z o) (sym held) h in
    let w = view c.mark-number.new.pass in
    let m = subst (λ (a : DelAnswer). HasMarked v (del_event c.lane.result None key a) c.mark-number.result w) c.answer_absent-answer.ensures c.mark-number.ensures.marked in
    let quiet = missed_quiet v c.requires.sound c.lane.result key c.args.directory c.args.journal c.requires.index c.requires.log None c.args.journal.pending.stopped in
    journal_on v w _ c.mark-number.result m quiet (has (v.start.slots + 2) (inl refl)) c.args.journal c.requires.log

pub give_directory-requires-clause-stands : goal.give_directory-requires-clause-stands
give_directory-requires-clause-stands g c =
    let v = view c.args.pass.now in
    let key = key_of c.args.name.now in
    let held : v.held ≡ (v.start.slots + 2) ∷ 1 ∷ [] = c.requires.pass.2 ∙ ap (λ (z : Start). (z.slots + 2) ∷ 1 ∷ []) (sym c.requires.pass.0.start) in
    let has : (o : ℕ) → Has ((v.start.slots + 2) ∷ 1 ∷ []) o → Has v.held o = λ o h. subst (λ (z : List ℕ). Has z o) (sym held) h in
    let w = view c.mark-number.new.pass in
    let m = subst (λ (a : DelAnswer). HasMarked v (del_event c.lane.result None key a) c.mark-number.result w) c.answer_absent-answer.ensures c.mark-number.ensures.marked in
    let quiet = missed_quiet v c.requires.sound c.lane.result key c.args.directory c.args.journal c.requires.index c.requires.log None c.args.journal.pending.stopped in
    subst (λ (z : View). HasDirectory z c.args.directory) (sym c.give_journal.ensures.gave) (directory_on v w _ c.mark-number.result m quiet (has 1 (inr (inl refl))) c.args.directory c.requires.index)
