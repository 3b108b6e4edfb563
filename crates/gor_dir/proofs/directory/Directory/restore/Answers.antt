use Rattle.std.proofs.Common.{◌∷◌, ◌++◌, [], ap, sym, ◌∙◌, subst}
use Rattle.std.specs.Prelude.{filter}
use Rattle.gor_model.specs.Objects.{Has}
use Rattle.gor_dir.specs.Listings.{Listing}
use Rattle.gor_dir.specs.Pools.{is_apart}
use Rattle.gor_dir.proofs.Steps.{shown-free, shown-restored, kept-restored}
use Rattle.gor_dir.proofs.SlotLists.{slots_of, distinct-back}
use Rattle.gor_dir.proofs.StartSteps.{adds-shown}
use Rattle.gor_dir.proofs.directory.Directory.restore.Goals as goal

pub remove-requires : goal.remove-requires
remove-requires c = record { apart = distinct-back (slots_of c.self.inside.rows.rows) c.self.inside.pool.free c.self.invariant.slots }

pub invariant_of-self-2 : goal.invariant_of-self-2
invariant_of-self-2 c = kept-restored c.self.inside.rows.rows c.push.new.self.rows c.args.name c.args.slot c.args.uid c.self.inside.pool.free c.remove.new.self.free
    c.self.inside.pool.capacity c.remove.new.self.capacity
    (c.push.ensures ∙ ap (λ l. l ++ record { name = c.args.name; slot = c.args.slot; uid = c.args.uid } ∷ []) c.in_ok-reserve.ensures.same)
    c.self.invariant c.remove.ensures.room
    (subst (λ (v : Listing). Has v.free c.args.slot) (sym c.self.view_is) (subst (λ l. Has l c.args.slot) (shown-free c.args.self.now) c.requires.free))
    c.remove.ensures.free

pub returns-clause-restored : goal.returns-clause-restored
returns-clause-restored c =
    shown-restored c.args.self.now _ c.args.name c.args.slot c.args.uid (ap (λ (v : Listing). v.floor) c.self.view_is)
    (c.push.ensures ∙ ap (λ l. l ++ record { name = c.args.name; slot = c.args.slot; uid = c.args.uid } ∷ []) (c.in_ok-reserve.ensures.same ∙ ap (λ (v : Listing). v.rows) c.self.view_is))
    c.requires.absent (c.remove.ensures.free ∙ ap (λ (v : Listing). filter (is_apart c.args.slot) v.free) c.self.view_is)

pub returns-clause-start : goal.returns-clause-start
returns-clause-start c = λ before after row name slot uid adds stands.
    adds-shown c.args.self.now _ c.args.name c.args.slot c.args.uid (returns-clause-restored c) before after row name slot uid adds stands
