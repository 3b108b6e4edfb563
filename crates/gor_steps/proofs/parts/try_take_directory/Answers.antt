use Rattle.std.proofs.Common.{ap}
use Rattle.gor_model.specs.Shares.{directory_share}
use Rattle.gor_rule.specs.declared.view.View.{View}
use Rattle.gor_hall.specs.Passes.{view}
use Rattle.gor_steps.proofs.PartLaws.{took_directory, takes_it, at_once}
use Rattle.gor_steps.proofs.parts.try_take_directory.Goals as goal

pub into_directory-requires : goal.into_directory-requires
into_directory-requires g c =
    let w = view c.try_take.new.pass in
    let taken = at_once g.V.Thing.stands (view c.args.pass.now) w 1 c.in-Some.part c.in-Some.ensures.some in
    g.met.V.Parts.some_directory w.start 1 c.in-Some.part (directory_share w.start w.at) (took_directory g.V.Thing.stands (view c.args.pass.now) w c.in-Some.part taken)

pub returns-in-Some-clause-some : goal.returns-in-Some-clause-some
returns-in-Some-clause-some g c =
    let v = view c.args.pass.now in let w = view c.try_take.new.pass in
    let once = c.in-Some.ensures.some in
    let taken = at_once g.V.Thing.stands v w 1 c.in-Some.part once in (
      takes_it g.V.Thing.stands v w 1 c.in-Some.part c.requires.pass.0.sound c.requires.pass.0.start once,
      ap (λ (z : View). z.refused) once.1,
      g.met.V.Parts.directory_in w.start 1 c.in-Some.part c.into_directory.result (directory_share w.start w.at) c.into_directory.ensures (took_directory g.V.Thing.stands v w c.in-Some.part taken),
    )
