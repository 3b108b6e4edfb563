use Rattle.std.proofs.Common.{sym, ◌∙◌, arith, ap}
use Rattle.gor_marks.proofs.MarkLaws.{mark_takes, is_only, no_fault}
use Rattle.gor_marks.proofs.reading.read_mark.Goals as goal

pub returns-in_err-mark_of-clause-only : goal.returns-in_err-mark_of-clause-only
returns-in_err-mark_of-clause-only c mark limits home text =
    no_fault c.args.first c.args.body.now _ (sym c.mark_of.ensures ∙ c.in_err-mark_of.was) mark limits home text

pub returns-clause-found : goal.returns-clause-found
returns-clause-found c = mark_takes c.args.first c.args.body.now _ (λ i. omega (arith, c.type_inv.body i)) (sym c.mark_of.ensures ∙ c.in_ok-mark_of.was)

pub returns-clause-only : goal.returns-clause-only
returns-clause-only c mark limits home text =
    let e = sym c.mark_of.ensures ∙ c.in_ok-mark_of.was in
    let k = is_only c.args.first c.args.body.now mark limits home text in
    cc
