use Rattle.std.proofs.Common.{ℕ, ◌<◌, sym, subst}
use Rattle.gor_hall.specs.declared.pass.Pass.{Pass}
use Rattle.gor_hall.specs.Halls.{IsPassOf}
use Rattle.gor_bench.proofs.table.time_all.Goals as goal

pub look-requires : goal.look-requires
look-requires g c =
    let item = c.in-Some.ensures.item in
    let low = subst (λ (n : ℕ). 0 < n) c.run_all.ensures.length item.3.0 in
    subst (λ (p : Pass). IsPassOf c.args.hall.now p) (sym item.1) (c.run_all.ensures.back 0 c.in-Some.pass.now low).0
