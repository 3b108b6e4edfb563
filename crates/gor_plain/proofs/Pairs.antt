-- Two passes of a list, taken from its end.
use Rattle.std.proofs.Common.{◌≡◌, List, [], ◌∷◌, ◌++◌, length, sym, ap, ◌∙◌, arith, Option, Some, slice_get, length-append}
use Rattle.std.specs.Option.{option_to_list}
use Rattle.gor_hall.specs.declared.pass.Pass.{Pass}
use Rattle.gor_hall.proofs.Passing.{get_longer, get_last}

module _ (xs ys zs : List Pass) (r s : Option Pass) (second first : Pass) (one : xs ≡ ys ++ option_to_list r) (is : r ≡ Some second) (two : ys ≡ zs ++ option_to_list s) (was : s ≡ Some first) (size : length xs ≡ 2) where
  one' : xs ≡ ys ++ second ∷ []
  one' = one ∙ ap (λ (o : Option Pass). ys ++ option_to_list o) is

  two' : ys ≡ zs ++ first ∷ []
  two' = two ∙ ap (λ (o : Option Pass). zs ++ option_to_list o) was

  pub none_left : length zs ≡ 0
  none_left = let a = ap length one' in let b = ap length two' in let c = length-append ys (second ∷ []) in let d = length-append zs (first ∷ []) in omega arith

  one_left : length ys ≡ 1
  one_left = let a = ap length one' in let c = length-append ys (second ∷ []) in omega arith

  pub second_at : slice_get xs 1 ≡ Some second
  second_at = ap (slice_get xs) (sym one_left) ∙ (ap (λ (l : List Pass). slice_get l (length ys)) one' ∙ get_last ys second)

  pub first_at : slice_get xs 0 ≡ Some first
  first_at = ap (λ (l : List Pass). slice_get l 0) one' ∙ get_longer ys second first 0 (ap (slice_get ys) (sym none_left) ∙ (ap (λ (l : List Pass). slice_get l (length zs)) two' ∙ get_last zs first))
