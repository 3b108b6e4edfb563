use Rattle.std.proofs.Common.{sym, ap, ◌∙◌, true}
use Rattle.std.specs.Prelude.{is_some, cond}
use Rattle.std.specs.Str.{bytes_eq}
use Rattle.std.specs.List.{list_any}
use Rattle.gor_model.specs.Names.{key_of}
use Rattle.gor_recover.specs.Naming.{has_key}
use Rattle.gor_recover.proofs.NameSteps.{seat_at, taken, same_key, begun}
use Rattle.gor_recover.proofs.names.NameTable.begin.Goals as goal

pub returns-then-is_some-clause-names : goal.returns-then-is_some-clause-names
returns-then-is_some-clause-names c = λ names are. taken names c.args.self.now.seats.items c.args.self.now.keys.keys are c.args.row.uid c.args.row.slot c.args.row.floor c.args.row.name
    (ap is_some (sym (c.index.ensures ∙ seat_at c.args.self.now.seats.items c.args.row.slot _ c.requires.slot)) ∙ (sym c.is_some.ensures ∙ c.if-is_some.true))

pub returns-then-contains-clause-names : goal.returns-then-contains-clause-names
returns-then-contains-clause-names c = λ names are. same_key names c.args.self.now.seats.items c.args.self.now.keys.keys are c.args.row.uid c.args.row.slot c.args.row.floor c.args.row.name
    (ap is_some (sym (c.index.ensures ∙ seat_at c.args.self.now.seats.items c.args.row.slot _ c.requires.slot)) ∙ (sym c.is_some.ensures ∙ c.if-is_some.false))
    (ap (λ k. list_any (has_key k) c.args.self.now.keys.keys) (sym c.key.ensures.key) ∙ (sym c.contains.ensures ∙ c.if-contains.true))

pub returns-clause-names : goal.returns-clause-names
returns-clause-names c = λ names are. begun names c.args.self.now.seats.items c.args.self.now.keys.keys are c.args.row c.insert.new.self.keys c.requires.slot
    (ap is_some (sym (c.index.ensures ∙ seat_at c.args.self.now.seats.items c.args.row.slot _ c.requires.slot)) ∙ (sym c.is_some.ensures ∙ c.if-is_some.false))
    (ap (λ k. list_any (has_key k) c.args.self.now.keys.keys) (sym c.key.ensures.key) ∙ (sym c.contains.ensures ∙ c.if-contains.false))
    (λ k. c.in_ok-_new.ensures.updates.0 k ∙ ap (λ n. cond (bytes_eq (key_of n) (key_of k.name)) true (list_any (has_key (key_of k.name)) c.args.self.now.keys.keys)) c.in_ok-copy.ensures.equal)
