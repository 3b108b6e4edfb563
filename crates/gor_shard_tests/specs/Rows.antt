-- The rows that a shard recovers in a test.
use Rattle.std.specs.Prelude.{List, [], ◌∷◌}
use Rattle.gor_model.specs.declared.point.Point.{Point}
use Rattle.gor_model.specs.declared.start.Row.{Row}

abbrev pub borders : List Point
borders = record { time = 7200; word = 1 } ∷ record { time = 93599; word = 2 } ∷ record { time = 93600; word = 3 } ∷ []

abbrev pub one_point : List Point
one_point = record { time = 5; word = 4 } ∷ []

abbrev pub row_a : Row
row_a = record { name = 97 ∷ []; slot = 2; uid = 5; floor = 93600; points = borders }

abbrev pub row_b : Row
row_b = record { name = 98 ∷ []; slot = 0; uid = 6; floor = 0; points = one_point }
