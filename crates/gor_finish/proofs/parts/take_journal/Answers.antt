use Rattle.std.proofs.Common.{◌≡◌, ◌+◌, ◌-◌, ap, arith}
use Rattle.gor_model.specs.declared.start.Start.{Start}
use Rattle.gor_hall.specs.Passes.{view}
use Rattle.gor_finish.proofs.TakenParts.{taken_journal}
use Rattle.gor_finish.proofs.parts.take_journal.Goals as goal

pub into_journal-requires : goal.into_journal-requires
into_journal-requires g c =
    let last : c.objects-last.result - 1 ≡ (view c.take.new.pass).start.slots + 2 =
    (let a = c.objects-last.ensures in let b = ap (λ (s : Start). s.slots) c.requires.0.start in let d = ap (λ (s : Start). s.slots) c.take.ensures.pass.0.start in omega arith) in
    taken_journal g.D.Disk.tells g.D.Disk.view g.D.Disk.faults (view c.args.pass.now) (view c.take.new.pass) (c.objects-last.result - 1) c.take.result last c.take.ensures.taken
