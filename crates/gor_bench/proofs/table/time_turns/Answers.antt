use Rattle.std.proofs.Common.{List, slice_get, sym, ap, ◌∙◌}
use Rattle.std.proofs.lemmas.Option.{slice_get-get_or}
use Rattle.gor_hall.specs.declared.pass.Pass.{Pass}
use Rattle.gor_rule.specs.declared.view.View.{View}
use Rattle.gor_bench.proofs.table.time_turns.Goals as goal

pub time_all-requires-clause-passes : goal.time_all-requires-clause-passes
time_all-requires-clause-passes g c κs within k d low =
    let there = slice_get-get_or c.as_mut_slice.result.now k d low in
    let first = c.in_ok-hall.ensures.passes.1 k _ (ap (λ (l : List Pass). slice_get l k) (sym c.as_mut_slice.ensures.value) ∙ there) in
    (first.0, ap (λ (v : View). v.held) first.3)
