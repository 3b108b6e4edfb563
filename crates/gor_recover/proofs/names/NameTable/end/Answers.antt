use Rattle.std.proofs.Common.{sym, ap, ◌∙◌, false}
use Rattle.std.specs.Prelude.{cond}
use Rattle.std.specs.List.{list_any}
use Rattle.std.specs.Str.{bytes_eq}
use Rattle.gor_model.specs.Names.{key_of}
use Rattle.gor_recover.specs.Naming.{has_key}
use Rattle.gor_recover.proofs.NameSteps.{seat_at, vacant, ended}
use Rattle.gor_recover.proofs.names.NameTable.end.Goals as goal

pub returns-in-None-clause-names : goal.returns-in-None-clause-names
returns-in-None-clause-names c = λ names are. vacant names c.args.self.now.seats.items c.args.self.now.keys.keys are c.args.slot
    (sym (seat_at c.args.self.now.seats.items c.args.slot _ c.requires.slot) ∙ (sym c.index_mut.ensures.value ∙ (sym c.replace.ensures.value ∙ c.in-None.is)))

pub returns-in-Some-clause-names : goal.returns-in-Some-clause-names
returns-in-Some-clause-names c = λ names are.
    rw c.replace.ensures.after (ended names c.args.self.now.seats.items c.args.self.now.keys.keys are c.args.slot c.in-Some.row c.swap_remove-there.new.self.keys c.requires.slot
    (sym (seat_at c.args.self.now.seats.items c.args.slot _ c.requires.slot) ∙ (sym c.index_mut.ensures.value ∙ (sym c.replace.ensures.value ∙ c.in-Some.is)))
    (λ k. c.swap_remove-there.ensures.updates.0 k ∙ ap (λ n. cond (bytes_eq n (key_of k.name)) false (list_any (has_key (key_of k.name)) c.args.self.now.keys.keys)) c.key.ensures.key))
