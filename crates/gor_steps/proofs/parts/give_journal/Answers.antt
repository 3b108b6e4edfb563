use Rattle.std.proofs.Common.{◌+◌, sym, ◌∙◌, ap}
use Rattle.gor_model.specs.declared.start.Start.{Start}
use Rattle.gor_model.specs.Shares.{journal_share}
use Rattle.gor_hall.specs.Passes.{view}
use Rattle.gor_steps.proofs.PartLaws.{gives_journal}
use Rattle.gor_steps.proofs.parts.give_journal.Goals as goal

pub give-requires-clause-stands : goal.give-requires-clause-stands
give-requires-clause-stands g c =
    let v = view c.args.pass.now in
    gives_journal g.V.Thing.stands v.start c.journal_object.result (c.journal_object.ensures ∙ ap (λ (z : Start). z.slots + 2) (sym c.requires.pass.0.start)) v.at c.of_journal.result
    (g.met.V.Parts.journal_out v.start c.journal_object.result c.of_journal.result c.args.journal (journal_share v.start v.at) c.of_journal.ensures c.requires.stands)
