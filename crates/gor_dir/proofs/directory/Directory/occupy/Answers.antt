use Rattle.std.proofs.Common.{◌∷◌, ◌++◌, [], ap, sym, ◌∙◌}
use Rattle.gor_model.specs.Names.{key_of}
use Rattle.gor_dir.specs.Listings.{Listing, row_under}
use Rattle.gor_dir.proofs.EventSteps.{begun-after}
use Rattle.gor_dir.proofs.Steps.{shown-entry, shown-begun, first-free, kept-begun}
use Rattle.gor_dir.proofs.directory.Directory.occupy.Goals as goal

pub push-requires-clause-absent : goal.push-requires-clause-absent
push-requires-clause-absent c =
    ap (λ (v : Listing). row_under v.rows (key_of c.args.name)) c.self.view_is ∙ sym (shown-entry c.args.self.now (key_of c.args.name)) ∙ c.requires.absent

pub invariant_of-self : goal.invariant_of-self
invariant_of-self c = kept-begun c.self.inside.rows.rows c.push.new.self.rows c.args.name c.take-slot.result c.args.uid c.self.inside.pool.free c.take-slot.new.self.free
    c.self.inside.pool.capacity c.take-slot.new.self.capacity c.push.ensures c.self.invariant c.take-slot.ensures.room c.take-slot.ensures.free

pub returns-clause-slot : goal.returns-clause-slot
returns-clause-slot c = first-free c.args.self.now c.take-slot.result c.take-slot.new.self.free (sym (ap (λ (v : Listing). v.free) c.self.view_is) ∙ c.take-slot.ensures.free)

pub returns-clause-begun : goal.returns-clause-begun
returns-clause-begun c =
    shown-begun c.args.self.now _ c.args.name c.take-slot.result c.args.uid (ap (λ (v : Listing). v.floor) c.self.view_is)
    (c.push.ensures ∙ ap (λ (v : Listing). v.rows ++ record { name = c.args.name; slot = c.take-slot.result; uid = c.args.uid } ∷ []) c.self.view_is)
    c.requires.absent (sym (ap (λ (v : Listing). v.free) c.self.view_is) ∙ c.take-slot.ensures.free)

pub returns-clause-after : goal.returns-clause-after
returns-clause-after c = begun-after c.args.self.now _ c.args.name c.args.uid c.requires.absent (returns-clause-begun c)
