-- How the directory of a start is built, a row at a time.
use Rattle.std.specs.Prelude.{◌≡◌, ℕ, List, [], ◌∷◌, Some, filter, if◌then◌else◌, false}
use Rattle.std.specs.List.{IsDistinct}
use Rattle.std.specs.List.Sorted.{IsPermutation}
use Rattle.std.specs.Map.{keys_of}
use Rattle.std.specs.Str.{bytes_eq}
use Rattle.gor_model.specs.Names.{key_of}
use Rattle.gor_model.specs.Shares.{DirectoryShare}
use Rattle.gor_model.specs.declared.start.Row.{Row}
use Rattle.gor_model.specs.declared.start.Start.{Start}
use Rattle.gor_dir.specs.Pools.{is_apart}

-- a start with so many slots and no series
abbrev pub bare_start : ℕ → Start
bare_start slots = record { slots = slots; floor = 0; next = 1; rows = []; shards = 0; shard = 0; since = 0; faults = 0; fit = false }

-- the second start has a series more, in some place of its rows
pub record AddsRow (before : Start) (row : Row) (after : Start) : Type 0 where
  pub floor : after.floor ≡ before.floor
  pub slots : after.slots ≡ before.slots
  pub rows : IsPermutation ((key_of row.name, row) ∷ before.rows) after.rows
  pub apart : IsDistinct bytes_eq (keys_of after.rows)

-- the share with one series more, in a slot that was free
abbrev pub directory_restored : List ℕ → ℕ → ℕ → DirectoryShare → DirectoryShare
directory_restored name slot uid directory = record {
  floor = directory.floor;
  entry = λ key. if bytes_eq key (key_of name) then Some (record { name = name; slot = slot; uid = uid }) else directory.entry key;
  free = filter (is_apart slot) directory.free;
}
