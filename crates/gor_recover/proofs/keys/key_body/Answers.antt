use Rattle.std.proofs.Common.{◌≡◌, false, sym, ◌∙◌, subst, arith}
use Rattle.gor_model.specs.Fields.{wrong}
use Rattle.gor_keys.specs.Reading.{keys_in}
use Rattle.gor_image.specs.Grammars.{is_of_millis}
use Rattle.gor_recover.specs.KeyReads.{AreKeysAt}
use Rattle.gor_recover.proofs.Near.{keys_near}
use Rattle.gor_recover.proofs.PlacedKeys.{body_limits}
use Rattle.gor_recover.proofs.keys.key_body.Goals as goal

pub misread-requires : goal.misread-requires
misread-requires c =
    let met : keys_in c.args.live c.args.body.now ≡ wrong c.in-Err-Wrong.place c.in-Err-Wrong.kind = rw c.in-Err-Wrong.field-0-is at c.in-Err-Wrong.ensures.exact in
    let low = keys_near c.args.live c.args.body.now (record { at = c.in-Err-Wrong.place; kind = c.in-Err-Wrong.kind }) met in
    rw (c.in-Err-Wrong.place-is) (omega arith)

pub returns-in_ok-placed-in-Ok-clause-limits : goal.returns-in_ok-placed-in-Ok-clause-limits
returns-in_ok-placed-in-Ok-clause-limits c =
    let keys = c.in-Ok.keys in
    let seconds : is_of_millis c.args.body.now ≡ false = sym c.is_of_millis.ensures ∙ c.if-is_of_millis.false in
    subst AreKeysAt (sym c.in_ok-placed-in-Ok.ensures)
    (body_limits keys.unit c.args.live c.args.at c.args.body.now keys.records.items seconds c.in-Ok.ensures.found.0 c.in-Ok.ensures.found.1 c.requires)
