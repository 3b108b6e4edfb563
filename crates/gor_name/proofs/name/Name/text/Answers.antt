use Rattle.std.proofs.lemmas.Str.{IsCharBoundary-from_drop}
use Rattle.gor_name.proofs.name.Name.text.Goals as goal

pub range_from-requires : goal.range_from-requires
range_from-requires c =
    let n = c.self.inside in
    λ some. rw c.as_str.ensures.value (IsCharBoundary-from_drop _ n.key_len c.self.invariant.0 c.self.invariant.1.text)
