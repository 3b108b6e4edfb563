-- What an opening recovers, as a start of the shard's history, and the marks and logs that it begins from.
use Rattle.std.specs.Prelude.{◌≡◌, ℕ, ◌≤◌, List, map, false}
use Rattle.gor_model.specs.Names.{key_of}
use Rattle.gor_model.specs.Starts.{IsStart}
use Rattle.gor_model.specs.Windows.{slots_of_a_shard}
use Rattle.gor_model.specs.declared.start.Row.{Row}
use Rattle.gor_model.specs.declared.start.Start.{Start}
use Rattle.gor_marks.specs.declared.mark.Mark.{Mark}
use Rattle.gor_image.specs.Images.{remaining_logs}
use Rattle.gor_image.specs.MarkLists.{AreMarksOrNone, is_fresh, AreBehind}
use Rattle.gor_recover.specs.declared.recovered.LogTop.{LogTop}
use Rattle.gor_recover.specs.declared.recovered.Recovered.{Recovered}
use Rattle.gor_recover.specs.declared.recovered.RecoveredRow.{RecoveredRow}

-- the logs that remain by the marks, by rising number
abbrev pub AreTops : List Mark → List LogTop → Type 0
AreTops marks tops = map (λ t. t.log) tops ≡ remaining_logs marks

-- ---- the start

abbrev pub row_of : RecoveredRow → Row
row_of r = record { name = r.name; slot = r.slot; uid = r.uid; floor = r.floor; points = r.points }

abbrev pub keyed_row : RecoveredRow → List ℕ × Row
keyed_row r = (key_of r.name, row_of r)

-- the start with so many slots that was recovered
unfoldable pub recovered_start : ℕ → Recovered → Start
recovered_start slots r = record { slots = slots; floor = r.floor; next = r.next; rows = map keyed_row r.rows.items; shards = 0; shard = 0; since = 0; faults = 0; fit = false }

-- where a shard may have so many slots, what was recovered is a start
abbrev pub StartsWith : ℕ → Recovered → Type 0
StartsWith slots r = slots ≤ slots_of_a_shard → IsStart (recovered_start slots r)

-- what an opening gives with so many slots, whatever the disk tells
pub record IsRecovered (shards shard slots : ℕ) (r : Recovered) : Type 0 where
  pub start : StartsWith slots r
  pub marks : AreMarksOrNone shards shard r.marks.items
  pub fresh : r.fresh ≡ is_fresh r.marks.items
  pub tops : AreTops r.marks.items r.tops.items
  pub behind : AreBehind r.marks.items r.floor r.next
