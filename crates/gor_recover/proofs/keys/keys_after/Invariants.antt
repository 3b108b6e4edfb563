use Rattle.std.proofs.Common.{◌≡◌, ℕ, List, map, drop}
use Rattle.gor_keys.specs.declared.record.KeyRecord.{KeyRecord as ARecord}
use Rattle.gor_image.specs.Records.{Placed}
use Rattle.gor_image.specs.Images.{keys_after}
use Rattle.gor_recover.specs.Parts.{key_shown}
use Rattle.gor_recover.specs.KeyReads.{keys_read}
use Rattle.gor_recover.proofs.keys.keys_after.Given as goal

abbrev pub invariant-loop-entry : goal.invariant-loop-entry
invariant-loop-entry l =
    (bodies : ℕ) (front : List (Placed ARecord)) → keys_after (keys_read bodies l.order front) (map key_shown (drop l.entry-index l.placed)) ≡ keys_after (keys_read bodies l.initial.order front) (map key_shown l.placed)
