use Rattle.std.proofs.Common.{◌≡◌, ◌+◌, ◌*◌, ◌≤◌, ◌++◌, take}
use Rattle.std.specs.Prelude.{flat_map, vec_len, vec_capacity}
use Rattle.gor_text.specs.Spelling.{point_text}
use Rattle.gor_text.proofs.spelling.push_points.Given as goal

abbrev pub invariant-loop-point : goal.invariant-loop-point
invariant-loop-point l = record {
  text : l.out.items ≡ l.fn.out.items ++ flat_map point_text (take l.point-index l.point-items);
  len : vec_len l.out ≤ vec_len l.fn.out + l.point-index * 38;
  capacity : vec_capacity l.fn.out ≤ vec_capacity l.out;
}
