use Rattle.std.proofs.Common.{rules, ◌≡◌, ap, ◌∙◌, subst}
use Rattle.gor_model.specs.Names.{IsName}
use Rattle.gor_text.specs.LineAnswers.{LineAnswers}
use Rattle.gor_text.specs.declared.answer.Reason.TheVariants as reason
use Rattle.gor_text.specs.declared.answer.What.TheVariants as what_
use Rattle.gor_text.specs.declared.workload.Line.TheVariants as line_
use Rattle.gor_store.proofs.RunLaws.{no_run, none_run, on_err_always}
use Rattle.gor_store.proofs.LineParts.{none_begun}
use Rattle.gor_steps.specs.Puts.{PutRefused}
use Rattle.gor_steps.specs.declared.puts.PutFault.TheVariants as put_fault
use Rattle.gor_store.proofs.LineLaws.{put_refused, put_late, told_put}
use Rattle.gor_store.proofs.lines.answer_put.Goals as goal

pub returns-in_default-clause-told : goal.returns-in_default-clause-told
returns-in_default-clause-told g c =
    let no : ¬ (IsName c.args.name.now) = search rules in
    let r = c.refused_put.ensures in
    put_refused c.args.name.now c.args.time c.args.word c.args.pass.now c.args.pass.now reason.Name c.refused_put.result r.0 r.1 (LineAnswers.put_name c.args.name.now c.args.time c.args.word no)
    (no_run c.args.shard.now c.args.pass.now c.requires.rests)

pub returns-in-Ok-clause-told : goal.returns-in-Ok-clause-told
returns-in-Ok-clause-told g c =
    let e = c.in-Ok.ensures.event in
    let same : c.in-Some.name ≡ c.args.name.now = search rules in
    let named : IsName c.args.name.now = search rules in
    told_put c.args.name.now c.in-Some.name c.args.time c.args.word c.args.pass.now c.put.new.pass c.in-Ok.reply.number c.in-Ok.reply.answer (record { what = c.event_of.result; due = c.put_due.result })
    (c.event_of.ensures ∙ ap (what_.Event 0 c.in-Ok.reply.number) c.put_told.ensures) c.put_due.ensures same named e.0 e.1

pub returns-in-Err-Time-clause-told : goal.returns-in-Err-Time-clause-told
returns-in-Err-Time-clause-told g c =
    let named : IsName c.args.name.now = search rules in
    let r = c.refused_put-in-Err-Time.ensures in
    let e = c.in-Err-Time.ensures.refused in
    put_late c.args.shard.now c.args.name.now c.args.time c.args.word c.in-Err-Time.field-0-0 c.args.pass.now c.put.new.pass c.refused_put-in-Err-Time.result c.in-Err-Time.field-0 c.requires.rests r.0 r.1 named e c.in-Err-Time.field-0-is

pub returns-clause-err : goal.returns-clause-err
returns-clause-err g c =
    let e : PutRefused c.args.pass.now c.args.time c.put.new.pass put_fault.NoMemory = subst (PutRefused c.args.pass.now c.args.time c.put.new.pass) c.in-Err-NoMemory.field-0-is c.in-Err-NoMemory.ensures.refused in
    none_begun (line_.Put c.args.name.now c.args.time c.args.word) c.args.pass.now c.put.new.pass (none_run c.args.shard.now c.args.pass.now c.put.new.pass c.requires.rests e.1)

pub returns-in_err-name-clause-err : goal.returns-in_err-name-clause-err
returns-in_err-name-clause-err g c = on_err_always c.from_residual.result
    (none_begun (line_.Put c.args.name.now c.args.time c.args.word) c.args.pass.now c.args.pass.now (no_run c.args.shard.now c.args.pass.now c.requires.rests))
