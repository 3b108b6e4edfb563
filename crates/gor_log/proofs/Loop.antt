-- What is read is spelled so.
use Rattle.std.proofs.Common.{◌≡◌, ℕ, List, Result, Ok, Err}
use Rattle.std.specs.Prelude.{IfOk}
use Rattle.gor_model.specs.Fields.{IsBytes}
use Rattle.gor_fields.specs.declared.field_fault.FieldFault.{FieldFault}
use Rattle.gor_fields.specs.Readings.{Gives}
use Rattle.gor_log.specs.declared.record.LogBatch.{LogBatch}
use Rattle.gor_log.specs.Spelling.{IsBatch, spelling}
use Rattle.gor_log.specs.Reading.{shown, log_in}
use Rattle.gor_log.proofs.BodyLaws.{log_takes}

pub is_found : (body : List ℕ) (r : Result LogBatch FieldFault) → IsBytes body → Gives shown r (log_in body) → IfOk r (λ b. IsBatch (shown b) × (body ≡ spelling (shown b)))
is_found body (Ok b) fits given = log_takes body (shown b) fits given
is_found body (Err e) fits given = tt
