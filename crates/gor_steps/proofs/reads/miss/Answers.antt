use Rattle.std.proofs.Common.{ℕ, List, inl, refl, sym, subst}
use Rattle.gor_model.specs.Objects.{Has}
use Rattle.gor_hall.specs.Passes.{view}
use Rattle.gor_steps.proofs.ReadLaws.{missed_may, missed_directory}
use Rattle.gor_steps.proofs.reads.miss.Goals as goal

pub mark-number-requires-clause-event : goal.mark-number-requires-clause-event
mark-number-requires-clause-event g c =
    let has = subst (λ (z : List ℕ). Has z 1) (sym c.requires.pass.1) (inl refl) in
    let m = missed_may (view c.args.pass.now) c.requires.sound c.lane.result c.args.wanted.now c.args.directory c.requires.stands c.requires.absent has in
    (c.lane.ensures, c.requires.pass.2, m.0, m.1)

pub give_directory-requires-clause-stands : goal.give_directory-requires-clause-stands
give_directory-requires-clause-stands g c =
    let has = subst (λ (z : List ℕ). Has z 1) (sym c.requires.pass.1) (inl refl) in
    missed_directory (view c.args.pass.now) c.requires.sound c.lane.result c.args.wanted.now c.args.directory c.requires.stands c.requires.absent has c.mark-number.result (view c.mark-number.new.pass) c.mark-number.ensures.marked
