use Rattle.std.proofs.Common.{◌≡◌, ℕ, ◌+◌, ◌-◌, ◌∷◌, [], List, None, refl, sym, ap, subst, ◌∙◌, inl, inr, arith}
use Rattle.gor_model.specs.declared.start.Start.{Start}
use Rattle.gor_model.specs.AnswersByShares.{put_absent_by}
use Rattle.gor_model.specs.Names.{key_of}
use Rattle.gor_model.specs.Objects.{Has}
use Rattle.gor_model.specs.Shares.{DirectoryShare, directory_share, journal_share}
use Rattle.gor_rule.specs.declared.view.View.{View}
use Rattle.gor_hall.specs.Passes.{view}
use Rattle.gor_steps.specs.Puts.{put_reply}
use Rattle.gor_steps.specs.Views.{HasDirectory}
use Rattle.gor_steps.proofs.BeginLaws.{absent_may, none_begun, put_quiet}
use Rattle.gor_steps.proofs.ViewLaws.{directory_on, journal_on}
use Rattle.gor_steps.proofs.begins.refuse.Goals as goal

pub mark-number-requires-clause-event : goal.mark-number-requires-clause-event
mark-number-requires-clause-event g c =
    let v = view c.args.pass.now in
    let key = key_of c.args.point.now.name.now in
    let held : v.held ≡ (v.start.slots + 2) ∷ 1 ∷ [] = c.requires.pass.2 ∙ ap (λ (z : Start). (z.slots + 2) ∷ 1 ∷ []) (sym c.requires.pass.0.start) in
    let has : (o : ℕ) → Has ((v.start.slots + 2) ∷ 1 ∷ []) o → Has v.held o = λ o h. subst (λ (z : List ℕ). Has z o) (sym held) h in
    let a = c.refusal-answer.result in
    let slots : c.objects-slots.result - 3 ≡ v.start.slots = (let all = c.objects-slots.ensures in let same = ap (λ (z : Start). z.slots) c.requires.pass.0.start in omega arith) in
    let told : put_absent_by v.start.slots (directory_share v.start v.at) (journal_share v.start v.at) c.args.point.now.time ≡ put_reply a =
    subst (λ (z : ℕ × DirectoryShare). put_absent_by z.0 z.1 (journal_share v.start v.at) c.args.point.now.time ≡ put_reply a) (λ i. (slots i, c.requires.index i)) (c.refusal-answer.ensures.told (journal_share v.start v.at) (sym c.requires.log.stopped)) in
    let m = absent_may v c.requires.sound c.lane.result c.args.point.now c.requires.point c.args.directory c.requires.index c.requires.absent a None told
    (none_begun v c.requires.sound c.lane.result c.args.point.now c.requires.point c.args.directory c.requires.index c.requires.absent a c.refusal-answer.ensures.quiet) (λ o h. has o (turn v o h)) in
    (c.lane.ensures, c.requires.pass.1, m.0, m.1) where
      turn : (v : View) (o : ℕ) → Has (1 ∷ (v.start.slots + 2) ∷ []) o → Has ((v.start.slots + 2) ∷ 1 ∷ []) o
      turn v o (inl is) = inr (inl is)
      turn v o (inr (inl is)) = inl is
      turn v o (inr (inr none)) = absurd none

pub give_journal-requires-clause-stands : goal.give_journal-requires-clause-stands
give_journal-requires-clause-stands g c =
    let v = view c.args.pass.now in
    let key = key_of c.args.point.now.name.now in
    let held : v.held ≡ (v.start.slots + 2) ∷ 1 ∷ [] = c.requires.pass.2 ∙ ap (λ (z : Start). (z.slots + 2) ∷ 1 ∷ []) (sym c.requires.pass.0.start) in
    let has : (o : ℕ) → Has ((v.start.slots + 2) ∷ 1 ∷ []) o → Has v.held o = λ o h. subst (λ (z : List ℕ). Has z o) (sym held) h in
    let a = c.refusal-answer.result in
    let quiet = put_quiet v c.requires.sound c.lane.result c.args.point.now c.requires.point c.args.directory c.requires.index c.requires.absent None a c.refusal-answer.ensures.quiet in
    journal_on v (view c.mark-number.new.pass) _ c.mark-number.result c.mark-number.ensures.marked quiet (has (v.start.slots + 2) (inl refl)) c.args.journal c.requires.log

pub give_directory-requires-clause-stands : goal.give_directory-requires-clause-stands
give_directory-requires-clause-stands g c =
    let v = view c.args.pass.now in
    let key = key_of c.args.point.now.name.now in
    let held : v.held ≡ (v.start.slots + 2) ∷ 1 ∷ [] = c.requires.pass.2 ∙ ap (λ (z : Start). (z.slots + 2) ∷ 1 ∷ []) (sym c.requires.pass.0.start) in
    let has : (o : ℕ) → Has ((v.start.slots + 2) ∷ 1 ∷ []) o → Has v.held o = λ o h. subst (λ (z : List ℕ). Has z o) (sym held) h in
    let a = c.refusal-answer.result in
    let quiet = put_quiet v c.requires.sound c.lane.result c.args.point.now c.requires.point c.args.directory c.requires.index c.requires.absent None a c.refusal-answer.ensures.quiet in
    subst (λ (z : View). HasDirectory z c.args.directory) (sym c.give_journal.ensures.gave) (directory_on v (view c.mark-number.new.pass) _ c.mark-number.result c.mark-number.ensures.marked quiet (has 1 (inr (inl refl))) c.args.directory c.requires.index)
