use Rattle.std.proofs.Common.{◌≡◌, take}
use Rattle.gor_disk.specs.declared.disk.FileId.{FileId}
use Rattle.gor_disk.specs.Disk.{IsImage, settled}
use Rattle.gor_disk.specs.Memory.{contents, held_after}
use Rattle.gor_disk.proofs.images.image_files.Given as goal

abbrev pub invariant-loop-i : goal.invariant-loop-i
invariant-loop-i l = record {
  image : (f : FileId) → IsImage (held_after f (settled (contents l.first f)) (take l.i l.calls) (take l.i l.kept)) (contents l.files.items f);
  stable : l.choice ≡ 0 → (f : FileId) → contents l.files.items f ≡ (held_after f (settled (contents l.first f)) (take l.i l.calls) (take l.i l.kept)).stable;
}
