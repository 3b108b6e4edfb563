-- Calls that touch several files of a disk.
use Rattle.std.specs.Prelude.{◌≡◌, ℕ, ◌<◌, ◌≤◌, [], Bool, false}
use Rattle.gor_disk.specs.declared.disk.FileId.{FileId}
use Rattle.gor_disk.specs.Disk.{DiskView, Contents, LeavesSince, held_now, settled}

-- from old to new, only files that pass the test are touched
pub record Leaves (which : FileId → Bool) (old new : DiskView) : Type 0 where
  pub later : old.moment ≤ new.moment
  pub past : (t : ℕ) (file : FileId) → t ≤ old.moment → new.held t file ≡ old.held t file
  pub others : (t : ℕ) (file : FileId) → which file ≡ false → old.moment < t → t ≤ new.moment → new.held t file ≡ held_now old file
  pub other_bytes : (file : FileId) → which file ≡ false → new.seen file ≡ old.seen file

-- the file is empty, and nothing is pending in it
pub record IsGone (file : FileId) (disk : DiskView) : Type 0 where
  pub held : held_now disk file ≡ settled []
  pub seen : disk.seen file ≡ []

-- the clock does not fall, and what was, was
pub record GoesOn (old new : DiskView) : Type 0 where
  pub later : old.moment ≤ new.moment
  pub past : (t : ℕ) (file : FileId) → t ≤ old.moment → new.held t file ≡ old.held t file

-- what all images had before, those of the call and after it have too
abbrev pub Keeps : (Contents → Type 0) → DiskView → DiskView → Type 0
Keeps P old new = LeavesSince old.moment old P → LeavesSince old.moment new P
