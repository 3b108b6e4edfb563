use Rattle.std.proofs.Common.{◌≡◌, List, refl, ◌∙◌, ap}
use Rattle.gor_disk.specs.declared.files.File.{File}
use Rattle.gor_disk.specs.Memory.{contents}
use Rattle.gor_disk.proofs.Replay.{noted, synced, synced_image}
use Rattle.gor_disk.proofs.memory.MemoryDiskDisk.sync.Goals as goal

pub invariant_of-self-2-clause-image : goal.invariant_of-self-2-clause-image
invariant_of-self-2-clause-image c =
    let is = noted _ _ _ _ _ _ _ _ c.prepare.ensures.calls c.note.ensures.calls c.prepare.ensures.kept c.note.ensures.kept c.args.self.now.paired in
    let old = c.args.self.now.files.items in
    let copy : c.in_ok-copy.copy.items ≡ contents old c.args.file = c.in_ok-copy.ensures.copy ∙ c.bytes_of-bytes.ensures ∙ ap (λ (l : List File). contents l c.args.file) c.deref.ensures.value in
    synced_image _ old _ _ _ _ _ _ is refl copy c.args.self.now.image

pub returns-clause-durable : goal.returns-clause-durable
returns-clause-durable c = λ t.
    let is = noted _ _ _ _ _ _ _ _ c.prepare.ensures.calls c.note.ensures.calls c.prepare.ensures.kept c.note.ensures.kept c.args.self.now.paired in
    let old = c.args.self.now.files.items in
    let copy : c.in_ok-copy.copy.items ≡ contents old c.args.file = c.in_ok-copy.ensures.copy ∙ c.bytes_of-bytes.ensures ∙ ap (λ (l : List File). contents l c.args.file) c.deref.ensures.value in
    synced _ old _ _ _ _ _ _ is refl copy c.answered.result c.answered.ensures
