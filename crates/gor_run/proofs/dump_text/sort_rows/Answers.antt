use Rattle.std.proofs.Common.{rules}
use Rattle.std.proofs.lemmas.Cmp.{nat_list_cmp_total}
use Rattle.std.proofs.lemmas.List.Sorted.{ranks_by, answers_always}
use Rattle.std.specs.Ordering.{is_lt, nat_cmp}
use Rattle.std.specs.Cmp.Lexicographic.{slice_cmp}
use Rattle.gor_model.specs.Names.{key_of}
use Rattle.gor_recover.specs.declared.recovered.RecoveredRow.{RecoveredRow}
use Rattle.gor_run.proofs.dump_text.sort_rows.Goals as goal

pub returns-clause-ordered : goal.returns-clause-ordered
returns-clause-ordered c =
    c.sort_unstable_by.ensures.sorted (λ x y. is_lt (slice_cmp nat_cmp (key_of x.name) (key_of y.name)))
    (ranks_by nat_list_cmp_total (λ (row : RecoveredRow). key_of row.name)) (answers_always _ _ _ (λ f a r g called. search rules))
