-- What an opening recovers: the map that a shard starts from.
use Rattle.std.specs.Prelude.{◌≡◌, ◌⊎◌, ℕ, ◌^◌, ◌<◌, ◌≤◌, List, [], ◌∷◌, Option, ◌≢◌, IsTrue, ⊤}
use Rattle.std.specs.Map.{lookup}
use Rattle.std.specs.Str.{bytes_eq}
use Rattle.std.specs.List.{AllByRecursion}
use Rattle.gor_model.specs.Lists.{EachBefore}
use Rattle.gor_model.specs.declared.start.Row.{Row}
use Rattle.gor_model.specs.declared.start.Start.{Start}
use Rattle.gor_model.specs.Windows.{window_end, is_kept, last_window, greatest_time, slots_of_a_shard}
use Rattle.gor_model.specs.Names.{key_of}

abbrev pub row_in : List (List ℕ × Row) → List ℕ → Option Row
row_in rows key = lookup (bytes_eq key) rows

-- nothing yet, or the end of a window
abbrev pub IsFloor : ℕ → Type 0
IsFloor floor = (floor ≡ 0) ⊎ ((w : ℕ) × (w ≤ last_window) × (floor ≡ window_end w))

pub record IsRow (slots : ℕ) (key : List ℕ) (row : Row) : Type 0 where
  pub keyed : key ≡ key_of row.name
  pub slot : row.slot < slots
  pub uid : (1 ≤ row.uid) × (row.uid < 2 ^ 63)
  pub floor : IsFloor row.floor
  pub rising : EachBefore (λ p q. p.time < q.time) row.points
  pub timely : AllByRecursion (λ p. p.time ≤ greatest_time) row.points
  pub kept : AllByRecursion (λ p. IsTrue (is_kept row.floor p)) row.points

-- keys and slots differ
abbrev pub AreApart : List (List ℕ × Row) → Type 0
AreApart [] = ⊤
AreApart (q ∷ rows) = AllByRecursion (λ r. (r.0 ≢ q.0) × (r.1.slot ≢ q.1.slot)) rows × AreApart rows

pub record IsStart (start : Start) : Type 0 where
  pub slots : start.slots ≤ slots_of_a_shard
  pub floor : IsFloor start.floor
  pub next : (1 ≤ start.next) × (start.next ≤ 2 ^ 62)
  pub rows : AllByRecursion (λ r. IsRow start.slots r.0 r.1) start.rows
  pub apart : AreApart start.rows
