use Rattle.std.proofs.Common.{◌≡◌, ap, sym, ◌∙◌, max, arith}
use Rattle.std.proofs.lemmas.Grind.{common_steps}
use Rattle.gor_model.specs.SharesAfter.{directory_raised}
use Rattle.gor_model.specs.Windows.{window_end}
use Rattle.gor_dir.specs.Listings.{Listing}
use Rattle.gor_dir.proofs.EventSteps.{raised-after}
use Rattle.gor_dir.proofs.StartSteps.{share-raised}
use Rattle.gor_dir.proofs.Steps.{shown-raised}
use Rattle.gor_dir.proofs.directory.Directory.raise_floor.Goals as goal

pub returns-clause-raised : goal.returns-clause-raised
returns-clause-raised c =
    let raised : c.max-self-inside.result ≡ max c.self.inside.floor (window_end c.args.window) = grind (arith, common_steps) in
    shown-raised c.args.self.now _ (window_end c.args.window) (raised ∙ ap (λ (v : Listing). max v.floor (window_end c.args.window)) c.self.view_is)
    (ap (λ (v : Listing). v.rows) c.self.view_is) (ap (λ (v : Listing). v.free) c.self.view_is)

pub returns-clause-after : goal.returns-clause-after
returns-clause-after c = raised-after c.args.self.now _ c.args.window (returns-clause-raised c)

pub returns-clause-start : goal.returns-clause-start
returns-clause-start c = λ start stands. returns-clause-raised c ∙ ap (directory_raised (window_end c.args.window)) stands ∙ sym (share-raised start (window_end c.args.window))
