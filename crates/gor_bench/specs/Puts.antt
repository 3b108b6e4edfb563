-- A phase of puts alone.
use Rattle.std.specs.Prelude.{◌≡◌, ◌≤◌, List, length}
use Rattle.std.specs.List.{AllByRecursion}
use Rattle.gor_text.specs.declared.workload.Line.{Line}
use Rattle.gor_store.specs.Lanes.{AreTaken}
use Rattle.gor_store.specs.Stores.{lines_of_lanes}

-- the lines of a lane are taken, and no more than there are puts
pub record ArePuts (lines : List Line) : Type 0 where
  pub taken : AreTaken lines
  pub few : length lines ≤ 300000

-- a phase has eight lanes, whose lines are taken, and not more than eight times as many as there are puts
pub record IsSmall (lanes : List (List Line)) : Type 0 where
  pub eight : length lanes ≡ 8
  pub taken : AllByRecursion AreTaken lanes
  pub few : lines_of_lanes lanes ≤ 2400000
