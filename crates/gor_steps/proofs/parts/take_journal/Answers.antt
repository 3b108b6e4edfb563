use Rattle.std.proofs.Common.{◌≡◌, ◌+◌, sym, ◌∙◌, ap}
use Rattle.gor_model.specs.declared.start.Start.{Start}
use Rattle.gor_model.specs.Shares.{journal_share}
use Rattle.gor_hall.specs.Passes.{view}
use Rattle.gor_steps.proofs.PartLaws.{took_journal}
use Rattle.gor_steps.proofs.parts.take_journal.Goals as goal

pub into_journal-requires : goal.into_journal-requires
into_journal-requires g c =
    let w = view c.take.new.pass in
    let at : c.journal_object.result ≡ w.start.slots + 2 = c.journal_object.ensures ∙ ap (λ (z : Start). z.slots + 2) (sym c.take.ensures.pass.0.start) in
    g.met.V.Parts.some_journal w.start (w.start.slots + 2) c.take.result (journal_share w.start w.at) (took_journal g.V.Thing.stands (view c.args.pass.now) w c.journal_object.result c.take.result at c.take.ensures.taken)

pub returns-clause-stands : goal.returns-clause-stands
returns-clause-stands g c =
    let w = view c.take.new.pass in
    let at : c.journal_object.result ≡ w.start.slots + 2 = c.journal_object.ensures ∙ ap (λ (z : Start). z.slots + 2) (sym c.take.ensures.pass.0.start) in
    g.met.V.Parts.journal_in w.start (w.start.slots + 2) c.take.result c.into_journal.result (journal_share w.start w.at) c.into_journal.ensures
    (took_journal g.V.Thing.stands (view c.args.pass.now) w c.journal_object.result c.take.result at c.take.ensures.taken)
