use Rattle.std.proofs.Common.{◌≡◌, ◌+◌, ◌-◌, ◌*◌, ◌≤◌, drop}
use Rattle.gor_model.specs.Fields.{with_front}
use Rattle.gor_slab.specs.Reading.{rows_in, used}
use Rattle.gor_slab.proofs.reading.rows_of.Given as goal

abbrev pub invariant-loop-index : goal.invariant-loop-index
invariant-loop-index l = record {
  used : l.used ≡ used l.rows.items;
  fits : l.used ≤ l.sizes.room;
  read : with_front l.rows.items (rows_in l.last l.sizes.room (24 + l.sizes.room + l.index * 24) l.used (l.sizes.rows - l.index) (drop (24 + l.sizes.room + l.index * 24) l.bytes))
      ≡ rows_in l.last l.sizes.room (24 + l.sizes.room) 0 l.sizes.rows (drop (24 + l.sizes.room) l.bytes);
}
