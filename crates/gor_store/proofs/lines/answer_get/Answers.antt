use Rattle.std.proofs.Common.{rules, ◌≡◌, ℕ, List, ap, ◌∙◌, subst}
use Rattle.gor_model.specs.Names.{IsName}
use Rattle.gor_steps.specs.Points.{GetRefused}
use Rattle.gor_text.specs.LineAnswers.{LineAnswers}
use Rattle.gor_text.specs.declared.answer.Reason.TheVariants as reason
use Rattle.gor_text.specs.declared.answer.What.{What}
use Rattle.gor_text.specs.declared.answer.What.TheVariants as what_
use Rattle.gor_text.specs.declared.workload.Line.TheVariants as line_
use Rattle.gor_store.specs.Lines.{IsTold}
use Rattle.gor_store.proofs.RunLaws.{no_run, on_err_always}
use Rattle.gor_store.proofs.LineParts.{none_begun}
use Rattle.gor_store.proofs.LineLaws.{told_refused, told_range, told_get, get_some}
use Rattle.gor_store.proofs.lines.answer_get.Goals as goal

pub returns-in_default-clause-told : goal.returns-in_default-clause-told
returns-in_default-clause-told g c =
    let no : ¬ (IsName c.args.name.now) = search rules in
    told_refused (line_.Get c.args.name.now c.args.from c.args.to) c.args.pass.now c.args.pass.now reason.Name (LineAnswers.get_name c.args.name.now c.args.from c.args.to no)
    (no_run c.args.shard.now c.args.pass.now c.requires.rests)

pub returns-in-Ok-clause-told : goal.returns-in-Ok-clause-told
returns-in-Ok-clause-told g c =
    let e = c.in-Ok.ensures.event in
    let same : c.in-Some.name ≡ c.args.name.now = search rules in
    let named : IsName c.args.name.now = search rules in
    let is : c.event_of.result ≡ what_.Event 0 c.in-Ok.reply.number (Rattle.gor_steps.specs.Points.get_reply c.in-Ok.reply.answer) = c.event_of.ensures ∙ ap (what_.Event 0 c.in-Ok.reply.number) c.get_told.ensures in
    subst (λ (w : What). IsTold (line_.Get c.args.name.now c.args.from c.args.to) c.args.pass.now c.get.new.pass w) (Rattle.std.proofs.Common.sym is)
    (told_get c.args.name.now c.in-Some.name c.args.from c.args.to c.args.pass.now c.get.new.pass c.in-Ok.reply.number (Rattle.gor_steps.specs.Points.get_reply c.in-Ok.reply.answer) same named e.0 e.1)

pub returns-in-Err-Range-clause-told : goal.returns-in-Err-Range-clause-told
returns-in-Err-Range-clause-told g c =
    let named : IsName c.args.name.now = search rules in
    told_range c.args.shard.now c.args.name.now c.in-Some.name c.args.from c.args.to _ _ c.args.pass.now c.get.new.pass c.in-Err-Range.field-0 c.requires.rests named c.in-Err-Range.ensures.refused c.in-Err-Range.field-0-is

pub returns-clause-err : goal.returns-clause-err
returns-clause-err g c =
    let same : c.in-Some.name ≡ c.args.name.now = search rules in
    let named : IsName c.args.name.now = search rules in
    get_some c.args.shard.now c.args.pass.now c.get.new.pass c.args.name.now c.in-Some.name c.args.from c.args.to c.in-Err-NoMemory.field-0 c.requires.rests named same c.in-Err-NoMemory.ensures.refused

pub returns-in_err-name-clause-err : goal.returns-in_err-name-clause-err
returns-in_err-name-clause-err g c = on_err_always c.from_residual.result
    (none_begun (line_.Get c.args.name.now c.args.from c.args.to) c.args.pass.now c.args.pass.now (no_run c.args.shard.now c.args.pass.now c.requires.rests))
