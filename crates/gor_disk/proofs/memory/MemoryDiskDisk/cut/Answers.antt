use Rattle.std.proofs.Common.{refl, take}
use Rattle.gor_disk.specs.Memory.{contents}
use Rattle.gor_disk.proofs.Replay.{noted, noted_changes, noted_done_if, noted_image}
use Rattle.gor_disk.proofs.StillImages.{cut_if}
use Rattle.gor_disk.proofs.memory.MemoryDiskDisk.cut.Goals as goal

pub invariant_of-self-2-clause-image : goal.invariant_of-self-2-clause-image
invariant_of-self-2-clause-image c =
    let is = noted _ _ _ _ _ _ _ _ c.prepare.ensures.calls c.note.ensures.calls c.prepare.ensures.kept c.note.ensures.kept c.args.self.now.paired in
    let old = c.args.self.now.files.items in
    let o = c.shorten-outcome in
    noted_image _ old _ _ _ _ _ _ _ is c.args.self.now.image o.ensures.others
    (cut_if o.result _ (contents old c.args.file) _ c.args.len (c.args.self.now.image c.args.file) (c.requires refl) o.ensures.done o.ensures.err)

pub returns-clause-cut : goal.returns-clause-cut
returns-clause-cut c = λ t.
    let is = noted _ _ _ _ _ _ _ _ c.prepare.ensures.calls c.note.ensures.calls c.prepare.ensures.kept c.note.ensures.kept c.args.self.now.paired in
    let old = c.args.self.now.files.items in
    let o = c.shorten-outcome in
    record {
      changes = noted_changes _ old _ _ _ _ _ _ _ is o.ensures.others;
      done = noted_done_if _ old _ _ _ _ _ _ _ is o.result (take c.args.len (contents old c.args.file)) o.ensures.done;
    }
