-- The key of a text of ASCII alone.
use Rattle.std.proofs.Common.{◌≡◌, ℕ, List, map, encode_utf8_all, sym, ap, ◌∙◌, chars}
use Rattle.std.specs.Str.{IsAscii}
use Rattle.std.specs.Char.{to_ascii_lowercase}
use Rattle.std.proofs.lemmas.Str.{chars-IsAscii, encodes-IsAscii}
use Rattle.std.proofs.lemmas.Str.Ascii.{IsAscii-map, lowercase_ascii}
use Rattle.caseless.proofs.CaselessLemmas.{default_case_fold-ascii, All-chars}
use Rattle.gor_model.specs.Names.{key_of}

pub key_of_ascii : (text : List ℕ) → IsAscii text → map to_ascii_lowercase text ≡ key_of text
unfolding key_of
key_of_ascii text ascii =
    let folded = default_case_fold-ascii (chars text) (All-chars text ascii) in
    let lower = IsAscii-map to_ascii_lowercase text lowercase_ascii ascii in
    sym (ap encode_utf8_all (folded ∙ ap (map to_ascii_lowercase) (chars-IsAscii text ascii)) ∙ encodes-IsAscii (map to_ascii_lowercase text) lower)
