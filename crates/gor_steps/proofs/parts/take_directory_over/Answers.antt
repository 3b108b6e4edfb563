use Rattle.gor_model.specs.Shares.{directory_share}
use Rattle.gor_hall.specs.Passes.{view}
use Rattle.gor_steps.proofs.PartLaws.{took_directory}
use Rattle.gor_steps.proofs.parts.take_directory_over.Goals as goal

pub into_directory-requires : goal.into_directory-requires
into_directory-requires g c =
    let w = view c.take.new.pass in
    g.met.V.Parts.some_directory w.start 1 c.take.result (directory_share w.start w.at) (took_directory g.V.Thing.stands (view c.args.pass.now) w c.take.result c.take.ensures.taken)

pub returns-clause-stands : goal.returns-clause-stands
returns-clause-stands g c =
    let w = view c.take.new.pass in
    g.met.V.Parts.directory_in w.start 1 c.take.result c.into_directory.result (directory_share w.start w.at) c.into_directory.ensures
    (took_directory g.V.Thing.stands (view c.args.pass.now) w c.take.result c.take.ensures.taken)
