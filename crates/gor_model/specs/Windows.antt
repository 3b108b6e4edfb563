-- Windows of two hours, their ends, and which points are kept, for times in seconds or in milliseconds.
use Rattle.std.specs.Prelude.{ℕ, ◌+◌, ◌-◌, ◌*◌, ◌/◌, Bool, nat_le, List, filter}
use Rattle.gor_model.specs.declared.point.Point.{Point}
use Rattle.gor_model.specs.declared.unit.Unit.{Unit as TimeUnit}
use Rattle.gor_model.specs.declared.unit.Unit.TheVariants.{Second, Milli}

-- how many of a unit make a second
abbrev pub per : TimeUnit → ℕ
per Second = 1
per Milli = 1000

-- the unit of the store's times
abbrev pub store_unit : TimeUnit
store_unit = Second

-- ---- in a unit

-- the times in a window
abbrev pub window_length : TimeUnit → ℕ
window_length u = 7200 * per u

-- the window that a time is in, and the first time behind a window
abbrev pub window_in : TimeUnit → ℕ → ℕ
window_in u time = time / window_length u

abbrev pub end_in : TimeUnit → ℕ → ℕ
end_in u w = (w + 1) * window_length u

-- a point is kept for a day behind a floor
abbrev pub is_kept_in : TimeUnit → ℕ → Point → Bool
is_kept_in u floor point = nat_le floor (point.time + 86400 * per u)

-- the last window, and the last time in it
abbrev pub last_window : ℕ
last_window = 596522

abbrev pub last_time_in : TimeUnit → ℕ
last_time_in u = end_in u last_window - 1

-- ---- in the store's unit

abbrev pub window : ℕ → ℕ
window time = window_in store_unit time

abbrev pub window_end : ℕ → ℕ
window_end w = end_in store_unit w

abbrev pub is_kept : ℕ → Point → Bool
is_kept floor point = is_kept_in store_unit floor point

abbrev pub kept : ℕ → List Point → List Point
kept floor points = filter (is_kept floor) points

abbrev pub greatest_time : ℕ
greatest_time = last_time_in store_unit

-- the slots of a stored shard, at most
abbrev pub slots_of_a_shard : ℕ
slots_of_a_shard = 16384
