use Rattle.std.proofs.Common.{◌≡◌, ◌∙◌, ap, sym, subst, is_some, Some}
use Rattle.std.specs.Map.{lookup}
use Rattle.indexmap.specs.IndexMap.{swap_remove_entry}
use Rattle.gor_dir.specs.Listings.{row_under}
use Rattle.gor_dir.specs.Rows.{KeptRows, LosesRow}
use Rattle.gor_dir.proofs.EntryLaws.{Entries, rows_of, has_key, row_is_there, row_taken, rows_apart}
use Rattle.gor_dir.proofs.rows.Rows.remove.Goals as goal

pub unwrap-place-requires : goal.unwrap-place-requires
unwrap-place-requires c =
    ap is_some c.swap_remove.ensures.value ∙ sym (row_is_there c.args.key.now c.self.inside.places.entries)
    ∙ ap (λ (v : KeptRows). is_some (row_under v.rows c.args.key.now)) c.self.view_is ∙ c.requires.there

pub invariant_of-self : goal.invariant_of-self
invariant_of-self c = rows_apart c.swap_remove.new.self.entries c.swap_remove.ensures.unique

pub returns-clause-row : goal.returns-clause-row
returns-clause-row c =
    let found : lookup (has_key c.args.key.now) c.self.inside.places.entries ≡ Some c.unwrap-place.result = sym c.swap_remove.ensures.value ∙ c.unwrap-place.ensures in
    let taken : LosesRow (rows_of c.self.inside.places.entries) c.args.key.now c.unwrap-place.result.slot (rows_of (swap_remove_entry (has_key c.args.key.now) c.self.inside.places.entries))
    = row_taken c.args.key.now c.self.inside.places.entries c.unwrap-place.result found in
    let after : LosesRow (rows_of c.self.inside.places.entries) c.args.key.now c.unwrap-place.result.slot (rows_of c.swap_remove.new.self.entries)
    = subst (λ (es : Entries). LosesRow (rows_of c.self.inside.places.entries) c.args.key.now c.unwrap-place.result.slot (rows_of es)) (sym c.swap_remove.ensures.entries) taken in
    subst (λ (v : KeptRows). LosesRow v.rows c.args.key.now c.unwrap-place.result.slot (rows_of c.swap_remove.new.self.entries)) c.self.view_is after
