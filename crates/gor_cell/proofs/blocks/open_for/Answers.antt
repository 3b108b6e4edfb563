use Rattle.std.proofs.Common.{◌≡◌, ◌≤◌, ◌++◌, ◌∷◌, [], sym, ◌∙◌, ap, subst, false, arith}
use Rattle.gor_model.specs.PlainMap.{last_of}
use Rattle.gor_model.specs.Windows.{last_window}
use Rattle.gor_cell.specs.Blocks.{AreLater, with_last, roomy, lies_in}
use Rattle.gor_cell.proofs.Later.{fresh, later_reserved, trim_later, opened_later}
use Rattle.gor_cell.proofs.Results.{on_both}
use Rattle.gor_cell.proofs.blocks.open_for.Goals as goal

pub returns-then-ends_in-clause-later : goal.returns-then-ends_in-clause-later
returns-then-ends_in-clause-later c floor come a =
    let old = c.args.later.now.items in
    let mid = c.drop_empty.new.later.items in
    let new = c.reserve_last.new.later.items in
    let kept = trim_later floor old mid c.drop_empty.ensures.trimmed a in
    on_both c.reserve_last.result (new ≡ with_last roomy mid) (new ≡ mid) (AreLater floor new) c.reserve_last.ensures.ok c.reserve_last.ensures.err
    (λ e. subst (AreLater floor) (sym e) (later_reserved floor mid kept))
    (λ e. subst (AreLater floor) (sym e) kept)

pub returns-else-ends_in-clause-later : goal.returns-else-ends_in-clause-later
returns-else-ends_in-clause-later c floor come a =
    let old = c.args.later.now.items in
    let mid = c.drop_empty.new.later.items in
    let new = c.add_block.new.later.items in
    let w = c.window_of-window.result in
    let limit : w ≤ last_window = omega arith in
    let lies : lies_in w (last_of mid) ≡ false = ap (λ l. lies_in w (last_of l)) (sym c.deref.ensures.value) ∙ (sym c.ends_in.ensures ∙ c.if-ends_in.false) in
    on_both c.add_block.result (new ≡ mid ++ fresh w ∷ []) (new ≡ mid) (AreLater floor new) c.add_block.ensures.ok c.add_block.ensures.err
    (λ e. subst (AreLater floor) (sym e) (opened_later c.args.time w old mid c.drop_empty.ensures.trimmed c.drop_empty.ensures.ends lies c.window_of-window.ensures limit floor come a))
    (λ e. subst (AreLater floor) (sym e) (trim_later floor old mid c.drop_empty.ensures.trimmed a))
