use Rattle.std.proofs.Common.{◌≡◌, ◌≤◌, ◌+◌, ◌*◌, ◌++◌, take, vec_len, vec_capacity}
use Rattle.std.specs.List.{flat_map}
use Rattle.gor_slab.specs.Spelling.{row_bytes}
use Rattle.gor_slab.proofs.writing.push_rows.Given as goal

abbrev pub invariant-loop-row : goal.invariant-loop-row
invariant-loop-row l = record {
  items : l.out.items ≡ l.initial.out.items ++ flat_map row_bytes (take l.row-index l.rows);
  len : vec_len l.out ≡ vec_len l.initial.out + l.row-index * 24;
  capacity : vec_capacity l.initial.out ≤ vec_capacity l.out;
}
