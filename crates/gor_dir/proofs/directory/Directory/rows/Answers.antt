use Rattle.std.proofs.Common.{ap, ◌∙◌, subst, rules}
use Rattle.std.specs.List.{IsDistinct}
use Rattle.std.specs.Map.{keys_of}
use Rattle.std.specs.Str.{bytes_eq}
use Rattle.std.proofs.lemmas.List.Sorted.{IsNonDecreasingBy-from_sort_by_key}
use Rattle.gor_dir.specs.Listings.{Listing, keyed}
use Rattle.gor_dir.proofs.Sorting.{all_sorted, rising_rows}
use Rattle.gor_dir.proofs.directory.Directory.rows.Goals as goal

pub returns-clause-all : goal.returns-clause-all
returns-clause-all c =
    all_sorted c.args.self.now c.in_ok-rows.rows.items c.sort_unstable_by_key.new.self.items (c.in_ok-rows.ensures.all ∙ ap (λ (v : Listing). v.rows) c.self.view_is)
    c.sort_unstable_by_key.ensures.permutation (subst (λ (v : Listing). IsDistinct bytes_eq (keys_of (keyed v.rows))) c.self.view_is c.in_ok-rows.ensures.apart)

pub returns-clause-rising : goal.returns-clause-rising
returns-clause-rising c =
    rising_rows c.self.inside.rows.rows c.self.inside.pool.free c.self.inside.pool.capacity c.in_ok-rows.rows.items c.sort_unstable_by_key.new.self.items c.in_ok-rows.ensures.all
    c.sort_unstable_by_key.ensures.permutation c.self.invariant
    (IsNonDecreasingBy-from_sort_by_key (λ row. row.slot) _ c.sort_unstable_by_key.ensures.sorted (λ a r q k. search rules))
