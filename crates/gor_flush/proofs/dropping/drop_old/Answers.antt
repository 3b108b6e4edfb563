use Rattle.std.proofs.Common.{◌≡◌, List, [], ◌∷◌, ◌++◌, sym, ap, subst, ◌∙◌, true, false}
use Rattle.gor_marks.specs.declared.mark.Mark.{Mark}
use Rattle.gor_image.specs.ReadFiles.{earlier, is_replaced}
use Rattle.gor_image.specs.DiskSteps.{Leaves}
use Rattle.gor_image.proofs.Kept.{keeps}
use Rattle.gor_flush.proofs.MarkLists.{home_only}
use Rattle.gor_flush.proofs.Replaced.{first_replaces}
use Rattle.gor_flush.proofs.dropping.drop_old.Goals as goal

pub returns-in-Some-Sealed-clause-kept : goal.returns-in-Some-Sealed-clause-kept
returns-in-Some-Sealed-clause-kept g c = λ t.
    let h = c.in-Some-Sealed in
    let old = g.D.Disk.view c.args.disk.now in
    let new = g.D.Disk.view c.drop_sealed.new.disk in
    keeps c.args.marks.now old new (λ f. g.met.D.Disk.seen_may_stay c.args.disk.now f t)
    (subst (λ (l : List Mark). Leaves (is_replaced l) old new) (sym (h.ensures.some ∙ ap (λ x. earlier c.args.marks.now ++ x ∷ []) h.field-0-is)) (c.drop_sealed.ensures.touched t))

pub returns-in-Some-Home-clause-dropped : goal.returns-in-Some-Home-clause-dropped
returns-in-Some-Home-clause-dropped g c = λ t file is.
    let h = c.in-Some-Home in
    let none : is_replaced c.args.marks.now file ≡ false = subst (λ (l : List Mark). is_replaced l file ≡ false) (sym (home_only c.args.marks.now _ h.field-0 h.field-0-0 h.field-0-1 c.requires.marks h.field-0-is h.ensures.some)) (first_replaces h.field-0-0 h.field-0-1 file) in
    absurd (let both : true ≡ false = sym is ∙ none in cc)
