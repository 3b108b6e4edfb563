-- The passes of two lanes, taken from the end of the list of a new hall's passes.
use Rattle.std.proofs.Common.{◌≡◌, ℕ, List, [], ◌∷◌, ◌++◌, length, ap, ◌∙◌, Option, Some, slice_get}
use Rattle.std.specs.Option.{option_to_list}
use Rattle.gor_rule.specs.declared.view.View.{View}
use Rattle.gor_hall.specs.declared.hall.Hall.{Hall}
use Rattle.gor_hall.specs.declared.pass.Pass.{Pass}
use Rattle.gor_hall.specs.Halls.{start_of, IsFirstPass}
use Rattle.gor_hall.proofs.Passing.{get_longer, get_last}
use Rattle.gor_shard_tests.specs.Passes.{IsAtHand}

module _ {V : Type 0} (hall : Hall V) (xs ys zs : List Pass) (r s : Option Pass) (second first : Pass) (each : (k : ℕ) (p : Pass) → slice_get xs k ≡ Some p → IsFirstPass hall k p) (slots_are : (start_of hall).slots ≡ 2)
    (one : xs ≡ ys ++ option_to_list r) (is : r ≡ Some second) (two : ys ≡ zs ++ option_to_list s) (was : s ≡ Some first) where
  one' : xs ≡ ys ++ second ∷ []
  one' = one ∙ ap (λ (o : Option Pass). ys ++ option_to_list o) is

  two' : ys ≡ zs ++ first ∷ []
  two' = two ∙ ap (λ (o : Option Pass). zs ++ option_to_list o) was

  rests : (k : ℕ) (p : Pass) → slice_get xs k ≡ Some p → IsAtHand hall p
  rests k p e = let q = each k p e in record { own = q.0; nothing = ap (λ (v : View). v.held) q.3; slots = slots_are }

  pub second_rests : IsAtHand hall second
  second_rests = rests (length ys) second (ap (λ (l : List Pass). slice_get l (length ys)) one' ∙ get_last ys second)

  pub first_rests : IsAtHand hall first
  first_rests = rests (length zs) first (ap (λ (l : List Pass). slice_get l (length zs)) one' ∙ get_longer ys second first (length zs) (ap (λ (l : List Pass). slice_get l (length zs)) two' ∙ get_last zs first))
