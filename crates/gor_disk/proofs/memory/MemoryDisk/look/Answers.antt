use Rattle.gor_disk.proofs.Replay.{noted, looked, looked_image}
use Rattle.gor_disk.proofs.memory.MemoryDisk.look.Goals as goal

pub invariant_of-self-2-clause-image : goal.invariant_of-self-2-clause-image
invariant_of-self-2-clause-image c =
    let is = noted _ _ _ _ _ _ _ _ c.prepare.ensures.calls c.note.ensures.calls c.prepare.ensures.kept c.note.ensures.kept c.args.self.now.paired in
    looked_image _ c.args.self.now.files.items _ _ _ _ _ _ is c.requires c.args.self.now.image

pub returns-clause-same : goal.returns-clause-same
returns-clause-same c =
    let is = noted _ _ _ _ _ _ _ _ c.prepare.ensures.calls c.note.ensures.calls c.prepare.ensures.kept c.note.ensures.kept c.args.self.now.paired in
    looked _ c.args.self.now.files.items _ _ _ _ _ _ is c.requires
