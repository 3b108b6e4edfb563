-- How a dump is written.
use Rattle.std.specs.Prelude.{ℕ, List, [], ◌∷◌, ◌++◌, length, flat_map, codes, decimal}
use Rattle.gor_model.specs.declared.point.Point.{Point}
use Rattle.gor_text.specs.Spelling.{point_text}

-- the floor of a shard
abbrev pub floor_line : ℕ → ℕ → List ℕ
floor_line shard floor = decimal shard ++ codes " floor " ++ decimal floor ++ 10 ∷ []

-- a series with its kept points
abbrev pub series_line : ℕ → List ℕ → ℕ → List Point → List ℕ
series_line shard name floor points =
    decimal shard ++ codes " " ++ name ++ codes " floor " ++ decimal floor ++ codes " points " ++ decimal (length points) ++ flat_map point_text points ++ 10 ∷ []
