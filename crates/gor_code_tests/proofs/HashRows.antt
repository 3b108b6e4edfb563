-- The published vectors of the hash of a name's key, by computation: those of no bytes, of "a" and of "foobar".
use Rattle.std.proofs.Common.{◌≡◌, [], ◌∷◌, refl}
use Rattle.gor_model.specs.Names.{fnv1a}

of_no_bytes : fnv1a [] ≡ 0xcbf29ce484222325
unfolding fnv1a
of_no_bytes = refl

of_a : fnv1a (97 ∷ []) ≡ 0xaf63dc4c8601ec8c
unfolding fnv1a
of_a = refl

of_foobar : fnv1a (102 ∷ 111 ∷ 111 ∷ 98 ∷ 97 ∷ 114 ∷ []) ≡ 0x85944171f73967e8
unfolding fnv1a
of_foobar = refl
