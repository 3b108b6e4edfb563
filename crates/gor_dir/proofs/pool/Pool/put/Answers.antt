use Rattle.std.proofs.Common.{◌∷◌, [], reverse, ap, ◌∙◌}
use Rattle.std.proofs.lemmas.List.{reverse-append}
use Rattle.gor_dir.specs.Pools.{FreeSlots}
use Rattle.gor_dir.proofs.pool.Pool.put.Goals as goal

pub returns-clause-free : goal.returns-clause-free
returns-clause-free c =
    ap reverse (rw c.unwrap.ensures at c.push.ensures.items) ∙ reverse-append c.self.inside.slots.items (c.args.slot ∷ [])
    ∙ ap (λ (v : FreeSlots). c.args.slot ∷ v.free) c.self.view_is
