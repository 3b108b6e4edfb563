use Rattle.std.proofs.Common.{refl, arith}
use Rattle.gor_disk.specs.Disk.{overwritten}
use Rattle.gor_disk.specs.Memory.{contents}
use Rattle.gor_disk.proofs.Replay.{noted, noted_changes, noted_done_if, noted_image}
use Rattle.gor_disk.proofs.StillImages.{wrote_if}
use Rattle.gor_disk.proofs.memory.MemoryDiskDisk.write_at.Goals as goal

pub invariant_of-self-2-clause-image : goal.invariant_of-self-2-clause-image
invariant_of-self-2-clause-image c =
    let is = noted _ _ _ _ _ _ _ _ c.prepare.ensures.calls c.note.ensures.calls c.prepare.ensures.kept c.note.ensures.kept c.args.self.now.paired in
    let old = c.args.self.now.files.items in
    let o = c.overwrite-outcome in
    noted_image _ old _ _ _ _ _ _ _ is c.args.self.now.image o.ensures.others
    (wrote_if o.result _ (contents old c.args.file) _ c.args.bytes.now c.args.at (c.args.self.now.image c.args.file) (c.requires refl) o.ensures.done o.ensures.fits
    o.ensures.err (λ i. omega (arith, c.type_inv.bytes i)))

pub returns-clause-written : goal.returns-clause-written
returns-clause-written c = λ t.
    let is = noted _ _ _ _ _ _ _ _ c.prepare.ensures.calls c.note.ensures.calls c.prepare.ensures.kept c.note.ensures.kept c.args.self.now.paired in
    let old = c.args.self.now.files.items in
    let o = c.overwrite-outcome in
    record {
      changes = noted_changes _ old _ _ _ _ _ _ _ is o.ensures.others;
      done = noted_done_if _ old _ _ _ _ _ _ _ is o.result (overwritten c.args.at c.args.bytes.now (contents old c.args.file)) o.ensures.done;
    }
