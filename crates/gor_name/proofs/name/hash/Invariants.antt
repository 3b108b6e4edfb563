use Rattle.std.proofs.Common.{◌≡◌, take, fold}
use Rattle.gor_model.specs.Names.{hash_step}
use Rattle.gor_name.proofs.name.hash.Given as goal

abbrev pub invariant-loop-byte : goal.invariant-loop-byte
invariant-loop-byte l = l.hash ≡ fold hash_step 14695981039346656037 (take l.byte-index l.bytes)
