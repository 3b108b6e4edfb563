use Rattle.gor_model.specs.Shares.{directory_share}
use Rattle.gor_hall.specs.Passes.{view}
use Rattle.gor_steps.proofs.PartLaws.{gives_directory}
use Rattle.gor_steps.proofs.parts.give_directory.Goals as goal

pub give-requires-clause-stands : goal.give-requires-clause-stands
give-requires-clause-stands g c =
    let v = view c.args.pass.now in
    gives_directory g.V.Thing.stands v.start v.at c.of_directory.result
    (g.met.V.Parts.directory_out v.start 1 c.of_directory.result c.args.directory (directory_share v.start v.at) c.of_directory.ensures c.requires.stands)
