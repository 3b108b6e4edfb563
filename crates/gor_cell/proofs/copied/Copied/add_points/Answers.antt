use Rattle.std.proofs.Common.{ℕ, ◌-◌, ap, ◌∙◌}
use Rattle.std.specs.Prelude.{max}
use Rattle.gor_cell.proofs.Picks.{kept_found}
use Rattle.gor_cell.proofs.copied.Copied.add_points.Goals as goal

pub returns : goal.returns
returns c =
    let day_is = c.saturating_sub.ensures ∙ ap (λ (n : ℕ). c.args.self.now.floor - n) c.day.ensures in
    kept_found c.args.self.now.from c.args.self.now.to c.args.self.now.floor c.max-first.result c.args.block.now.points c.args.found.now c.add_between.new.found (c.max-first.ensures ∙ ap (max c.args.self.now.from) day_is) c.in_ok-add_between.ensures
