-- The test for a name, for grammars whose bytes may spell one.
use Rattle.std.specs.Prelude.{ℕ, List, length, Bool, not, ◌&&◌, ◌==◌, nat_le}
use Rattle.std.specs.Str.{is_utf8}
use Rattle.std.specs.List.{list_all}

abbrev pub is_plain : ℕ → Bool
is_plain byte = nat_le 33 byte && not (byte == 127)

unfoldable pub is_name : List ℕ → Bool
is_name bytes = is_utf8 bytes && nat_le 1 (length bytes) && nat_le (length bytes) 255 && list_all is_plain bytes
