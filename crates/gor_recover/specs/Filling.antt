-- The rows that are recovered of the series that are there.
use Rattle.std.specs.Prelude.{◌≡◌, List, map, None, Ok}
use Rattle.std.specs.List.{AllByRecursion}
use Rattle.gor_recover.specs.declared.gather.Gathered.{Gathered}
use Rattle.gor_recover.specs.declared.names.NamedRow.{NamedRow}
use Rattle.gor_recover.specs.declared.recovered.OpenFault.{OpenFault}
use Rattle.gor_recover.specs.declared.recovered.RecoveredRow.{RecoveredRow}
use Rattle.gor_image.specs.Records.{Files}
use Rattle.gor_image.specs.Images.{found_of, found_rise, rows_rise}
use Rattle.gor_recover.specs.Gathering.{IsGathered}
use Rattle.gor_recover.specs.Naming.{named_row}
use Rattle.gor_recover.specs.NamesRead.{filled_row}
use Rattle.gor_recover.specs.Openings.{IsMet}
use Rattle.gor_recover.specs.Recovered.{keyed_row}

-- whatever files these series were gathered from, the points of this one rise, and its row is that
pub record IsFilled (files : Files) (named : NamedRow) (row : RecoveredRow) : Type 0 where
  pub rise : found_rise None (found_of files named.uid) ≡ Ok tt
  pub is : keyed_row row ≡ filled_row files named

abbrev pub Fills : List Gathered → NamedRow → RecoveredRow → Type 0
Fills series named row = (files : Files) → AllByRecursion (IsGathered files) series → IsFilled files named row

abbrev pub FailsToFill : List Gathered → NamedRow → OpenFault → Type 0
FailsToFill series named fault = (files : Files) → AllByRecursion (IsGathered files) series → IsMet (found_rise None (found_of files named.uid)) fault

-- so of all of them, by rising slot
pub record AreFilled (files : Files) (names : List NamedRow) (rows : List RecoveredRow) : Type 0 where
  pub rise : rows_rise files (map named_row names) ≡ Ok tt
  pub are : map keyed_row rows ≡ map (filled_row files) names

abbrev pub FillAll : List Gathered → List NamedRow → List RecoveredRow → Type 0
FillAll series names rows = (files : Files) → AllByRecursion (IsGathered files) series → AreFilled files names rows

abbrev pub FailToFill : List Gathered → List NamedRow → OpenFault → Type 0
FailToFill series names fault = (files : Files) → AllByRecursion (IsGathered files) series → IsMet (rows_rise files (map named_row names)) fault
