use Rattle.std.proofs.Common.{rules, ◌≡◌, sym, ap, ◌∙◌, subst}
use Rattle.gor_model.specs.Names.{IsName}
use Rattle.gor_steps.specs.Dels.{del_reply}
use Rattle.gor_text.specs.LineAnswers.{LineAnswers}
use Rattle.gor_text.specs.declared.answer.Reason.TheVariants as reason
use Rattle.gor_text.specs.declared.answer.What.{What}
use Rattle.gor_text.specs.declared.answer.What.TheVariants as what_
use Rattle.gor_text.specs.declared.workload.Line.TheVariants as line_
use Rattle.gor_store.specs.Lines.{IsTold}
use Rattle.gor_store.proofs.RunLaws.{no_run, none_run, on_err_always}
use Rattle.gor_store.proofs.LineParts.{none_begun}
use Rattle.gor_store.proofs.LineLaws.{told_refused, told_del}
use Rattle.gor_store.proofs.lines.answer_del.Goals as goal

pub returns-in_default-clause-told : goal.returns-in_default-clause-told
returns-in_default-clause-told g c =
    let no : ¬ (IsName c.args.name.now) = search rules in
    told_refused (line_.Del c.args.name.now) c.args.pass.now c.args.pass.now reason.Name (LineAnswers.del_name c.args.name.now no)
    (no_run c.args.shard.now c.args.pass.now c.requires.rests)

pub returns-in-Ok-clause-told : goal.returns-in-Ok-clause-told
returns-in-Ok-clause-told g c =
    let e = c.in-Ok.ensures.event in
    let same : c.in-Some.name ≡ c.args.name.now = search rules in
    let named : IsName c.args.name.now = search rules in
    let is : c.event_of.result ≡ what_.Event 0 c.in-Ok.reply.number (del_reply c.in-Ok.reply.answer) = c.event_of.ensures ∙ ap (what_.Event 0 c.in-Ok.reply.number) c.del_told.ensures in
    subst (λ (w : What). IsTold (line_.Del c.args.name.now) c.args.pass.now c.del.new.pass w) (sym is)
    (told_del c.args.name.now c.in-Some.name c.args.pass.now c.del.new.pass c.in-Ok.reply.number (del_reply c.in-Ok.reply.answer) same named e)

pub returns-in_err-name-clause-err : goal.returns-in_err-name-clause-err
returns-in_err-name-clause-err g c = on_err_always c.from_residual.result
    (none_begun (line_.Del c.args.name.now) c.args.pass.now c.args.pass.now (no_run c.args.shard.now c.args.pass.now c.requires.rests))

pub returns-clause-err : goal.returns-clause-err
returns-clause-err g c = none_begun (line_.Del c.args.name.now) c.args.pass.now c.del.new.pass (none_run c.args.shard.now c.args.pass.now c.del.new.pass c.requires.rests c.in-Err-NoMemory.ensures.none)
