use Rattle.std.proofs.Common.{◌≡◌, List, ℕ, Bool, true, false, refl, sym}
use Rattle.std.specs.Str.{is_utf8, IsUtf8}
use Rattle.std.proofs.lemmas.Str.{IsUtf8-from_is_utf8, is_utf8-from_IsUtf8}
use Rattle.gor_text.proofs.item.is_text.Goals as goal

no_text : (bytes : List ℕ) → ¬ (IsUtf8 bytes) → false ≡ is_utf8 bytes
no_text bytes other = at (is_utf8 bytes) refl where
  at : (b : Bool) → is_utf8 bytes ≡ b → false ≡ b
  at true is = absurd (other (IsUtf8-from_is_utf8 bytes is))
  at false is = refl

pub returns-in-Ok : goal.returns-in-Ok
returns-in-Ok c = sym (is_utf8-from_IsUtf8 c.args.bytes.now c.in-Ok.ensures.cases.1)

pub returns-in-Err : goal.returns-in-Err
returns-in-Err c = no_text c.args.bytes.now c.in-Err.ensures.cases.0
