use Rattle.gor_values.proofs.WordLaws.{word_below, piece_fits}
use Rattle.gor_values.proofs.window.Window.holds.Goals as goal

pub returns-then-self-x-clause-fits : goal.returns-then-self-x-clause-fits
returns-then-self-x-clause-fits c _ = piece_fits c.args.x c.args.self.lead c.args.self.len (word_below c.args.x c.args.self.lead c.ranges.x.fits c.if-self-x.true) c.args.self.inside
