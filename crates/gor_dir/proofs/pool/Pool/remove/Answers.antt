use Rattle.std.proofs.Common.{◌≡◌, ◌<◌, length, ap, ◌∙◌, sym, subst}
use Rattle.std.specs.Prelude.{filter, nat_eq, slice_index}
use Rattle.std.specs.List.{IsDistinct}
use Rattle.gor_dir.specs.Pools.{FreeSlots, is_apart}
use Rattle.gor_dir.proofs.SlotLists.{pool-removed, pool-kept}
use Rattle.gor_dir.proofs.pool.Pool.remove.Goals as goal

pub returns-in-Some-clause-free : goal.returns-in-Some-clause-free
returns-in-Some-clause-free c =
    let items = c.self.inside.slots.items in
    let found : (c.in-Some.at < length items) × (slice_index items c.in-Some.at ≡ c.args.slot) = rw c.deref.ensures.value at c.in-Some.ensures.found in
    pool-removed items c.remove-slot.new.self.items c.in-Some.at c.args.slot (subst (λ (v : FreeSlots). IsDistinct nat_eq v.free) (sym c.self.view_is) c.requires.apart) found.0 found.1
    c.remove-slot.ensures.items
    ∙ ap (λ (v : FreeSlots). filter (is_apart c.args.slot) v.free) c.self.view_is

pub returns-in_default-clause-free : goal.returns-in_default-clause-free
returns-in_default-clause-free c =
    let items = c.self.inside.slots.items in
    let none : filter (is_apart c.args.slot) items ≡ items = rw c.deref.ensures.value at c.in_default.ensures.none in
    sym (ap (λ (v : FreeSlots). v.free) c.self.view_is) ∙ pool-kept items c.args.slot none ∙ ap (λ (v : FreeSlots). filter (is_apart c.args.slot) v.free) c.self.view_is
