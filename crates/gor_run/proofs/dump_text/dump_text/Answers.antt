use Rattle.std.proofs.Common.{map, ◌≡◌, ◌++◌, flat_map, length, subst, ap, ◌∙◌, arith}
use Rattle.std.proofs.lemmas.List.Sorted.{IsPermutation-map}
use Rattle.std.specs.List.Sorted.{IsPermutation}
use Rattle.std.specs.Ordering.{is_lt, nat_cmp}
use Rattle.std.specs.Cmp.Lexicographic.{slice_cmp}
use Rattle.gor_recover.specs.Recovered.{keyed_row, recovered_start}
use Rattle.gor_run.specs.Dumps.{floor_part, row_line}
use Rattle.gor_run.proofs.DumpParts.{IsSortedBy-map, written_whole}
use Rattle.gor_run.proofs.dump_text.dump_text.Goals as goal

pub returns : goal.returns
unfolding recovered_start
returns c =
    let lent : length c.deref_mut.result.now ≡ length c.args.recovered.rows.items = ap length c.deref_mut.ensures.value in
    let len : length c.sort_rows.new.rows ≡ length c.deref_mut.result.now = c.sort_rows.ensures.len in
    let same : c.deref.result.now ≡ c.sort_rows.new.rows =
    c.deref.ensures.value ∙ written_whole c.args.recovered.rows.len c.sort_rows.new.rows c.args.recovered.rows.items (omega (arith, lent, len, c.deref_mut.ensures.len)) (omega (arith, lent, len)) in
    record {
      rows = map keyed_row c.sort_rows.new.rows;
      all = subst (λ l. IsPermutation (map keyed_row l) (map keyed_row c.sort_rows.new.rows)) c.deref_mut.ensures.value (IsPermutation-map keyed_row _ _ c.sort_rows.ensures.all);
      ordered = IsSortedBy-map keyed_row (λ p q. is_lt (slice_cmp nat_cmp p.0 q.0)) c.sort_rows.new.rows c.sort_rows.ensures.ordered;
      lines = rw (c.in_ok-push_rows.ensures, c.in_ok-push_floor.ensures, c.new-text.ensures.items)
          (ap (λ l. floor_part 0 c.args.recovered.floor ++ flat_map (row_line 0) (map keyed_row l)) same);
    }
