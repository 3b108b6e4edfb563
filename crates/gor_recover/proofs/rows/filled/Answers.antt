use Rattle.std.proofs.Common.{◌≡◌, refl, ap, ◌∙◌, subst}
use Rattle.std.specs.Prelude.{IfSome}
use Rattle.std.specs.List.{IsAmong}
use Rattle.gor_model.specs.Windows.{kept}
use Rattle.gor_recover.proofs.Fillings.{filled_is, own_gathered}
use Rattle.gor_recover.proofs.rows.filled.Goals as goal

pub returns-clause-ok : goal.returns-clause-ok
returns-clause-ok c = λ files all.
    let found = subst (λ o. IfSome o (λ g. (g.now.uid ≡ c.args.named.uid) × IsAmong c.args.series.now g.now)) c.unwrap-gathered.ensures c.find.ensures.found in
    filled_is files c.args.named (record { name = c.args.named.name; slot = c.args.named.slot; uid = c.args.named.uid; floor = c.max-floor.result; points = c.in-Ok.points })
    c.unwrap-gathered.result.now found.0 (own_gathered files c.args.series.now c.unwrap-gathered.result.now found.1 all) c.in_default.is
    refl refl refl c.max-floor.ensures (c.in-Ok.ensures ∙ ap (λ f. kept f c.unwrap-gathered.result.now.points) c.max-floor.ensures)
