use Rattle.std.proofs.Common.{◌≡◌, ap, arith}
use Rattle.gor_model.specs.Fields.{wrong}
use Rattle.gor_marks.specs.Reading.{mark_in}
use Rattle.gor_image.specs.Grammars.{mark_at, from}
use Rattle.gor_recover.proofs.Near.{mark_near}
use Rattle.gor_recover.proofs.marks.mark_at.Goals as goal

pub misread-requires : goal.misread-requires
misread-requires c =
    let met : mark_in c.args.first c.args.body.now ≡ wrong c.in-Err-Wrong.place c.in-Err-Wrong.kind = rw c.in-Err-Wrong.field-0-is at c.in-Err-Wrong.ensures.exact in
    let low = mark_near c.args.first c.args.body.now (record { at = c.in-Err-Wrong.place; kind = c.in-Err-Wrong.kind }) met in
    omega arith

pub returns-in-Ok-clause-read : goal.returns-in-Ok-clause-read
unfolding mark_at
returns-in-Ok-clause-read c = ap (from c.args.at) c.in-Ok.ensures.exact

pub returns-in-Err-Wrong-clause-read : goal.returns-in-Err-Wrong-clause-read
unfolding mark_at
returns-in-Err-Wrong-clause-read c =
    let met : mark_in c.args.first c.args.body.now ≡ wrong c.in-Err-Wrong.place c.in-Err-Wrong.kind = rw c.in-Err-Wrong.field-0-is at c.in-Err-Wrong.ensures.exact in
    rw (c.misread.ensures) (ap (from c.args.at) met)
