-- What a writer holds.
use Rattle.std.specs.Prelude.{◌≡◌, List, drop}
use Rattle.std.specs.List.{AllByRecursion}
use Rattle.gor_model.specs.declared.unit.Unit.{Unit as TimeUnit}
use Rattle.gor_slab.specs.declared.writing.SlabWriter.{SlabWriter}
use Rattle.gor_slab.specs.Spelling.{Entry, IsEntry, blocks, rows_of}

-- These entries were added to a writer, for a file in this unit: their rows, and their blocks behind the room for the header.
pub record Wrote (writer : SlabWriter) (u : TimeUnit) (es : List Entry) : Type 0 where
  pub unit : writer.unit ≡ u
  pub limits : AllByRecursion IsEntry es
  pub rows : writer.rows.items ≡ rows_of 0 es
  pub bytes : drop 24 writer.bytes.items ≡ blocks es
