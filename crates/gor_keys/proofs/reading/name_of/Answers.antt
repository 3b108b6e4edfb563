use Rattle.gor_name.proofs.NameLaws.{no_name, test_of}
use Rattle.gor_keys.proofs.reading.name_of.Goals as goal

pub returns-in_default : goal.returns-in_default
returns-in_default c = no_name c.args.bytes.now (λ name. c.in_default.ensures.cases.0 name.text)

pub returns-in-Ok-read : goal.returns-in-Ok-read
returns-in-Ok-read c = rw (← c.in-Ok.ensures.cases.0) (c.in-Ok-read.ensures.name.0, test_of c.in-Ok.text.now c.in-Ok-read.ensures.name.1)

pub returns-in-Err-Empty : goal.returns-in-Err-Empty
returns-in-Err-Empty c = rw (← c.in-Ok.ensures.cases.0) (no_name c.in-Ok.text.now (λ name. let e = c.in-Err-Empty.ensures.allowed name in cc))

pub returns-in-Err-Long : goal.returns-in-Err-Long
returns-in-Err-Long c = rw (← c.in-Ok.ensures.cases.0) (no_name c.in-Ok.text.now (λ name. let e = c.in-Err-Long.ensures.allowed name in cc))

pub returns-in-Err-Control : goal.returns-in-Err-Control
returns-in-Err-Control c = rw (← c.in-Ok.ensures.cases.0) (no_name c.in-Ok.text.now (λ name. let e = c.in-Err-Control.ensures.allowed name in cc))
