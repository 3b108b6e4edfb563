use Rattle.std.proofs.Common.{◌≡◌, ◌++◌, map, vec_capacity}
use Rattle.gor_flush.specs.declared.part.Part.TheVariants as part
use Rattle.gor_store.proofs.values.push_series.Given as goal

abbrev pub invariant-loop-cell : goal.invariant-loop-cell
invariant-loop-cell g l = record {
  items : l.values.items ≡ l.initial.values.items ++ map part.Series l.yielded;
  capacity : vec_capacity l.values ≡ vec_capacity l.initial.values;
}
