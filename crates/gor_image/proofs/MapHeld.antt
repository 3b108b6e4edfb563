-- An image whose files hold a state with no damage holds it by its map.
use Rattle.std.proofs.Common.{List}
use Rattle.gor_model.specs.declared.event.Change.{Change}
use Rattle.gor_model.specs.declared.start.Start.{Start}
use Rattle.gor_marks.specs.declared.mark.Mark.{Mark}
use Rattle.gor_disk.specs.Disk.{Contents}
use Rattle.gor_image.specs.Appends.{ImageHolds, ImageStands, files_as}
use Rattle.gor_image.proofs.AnyMarks.{reads_as}

-- what stands is held, and fit
pub stands_held : (image : Contents) (marks : List Mark) (start : Start) (C : List Change) → ImageStands image marks start C → ImageHolds image marks start C
stands_held image marks start C s = record {
  marks_are = s.marks_are;
  files = files_as marks s.keys s.blocks s.batches;
  files_are = reads_as image marks start C s;
  hold = record { names = s.stand.names; recover = s.stand.recover; holds = s.stand.holds; fit = s.stand.fit };
}
