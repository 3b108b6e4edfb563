-- Lists of points that rise: a point that is later than the last one may follow.
use Rattle.std.proofs.Common.{◌≡◌, zero, suc, ◌-◌, ◌<◌, List, [], ◌∷◌, ◌++◌, length, ap, ◌∙◌, arith}
use Rattle.std.specs.Prelude.{Some, slice_get}
use Rattle.std.specs.List.{AllByRecursion}
use Rattle.gor_model.specs.declared.point.Point.{Point}
use Rattle.gor_merge.specs.Heads.{TimesRise}

all_later : (x y : Point) (zs : List Point) → AllByRecursion (λ q. x.time < q.time) zs → x.time < y.time → AllByRecursion (λ q. x.time < q.time) (zs ++ y ∷ [])
all_later x y [] all less = (less, tt)
all_later x y (z ∷ zs) all less = (all.0, all_later x y zs all.1 less)

at_end : (P : Point → Type 0) (xs : List Point) (y : Point) → AllByRecursion P (xs ++ y ∷ []) → P y
at_end P [] y all = all.0
at_end P (x ∷ xs) y all = at_end P xs y all.1

pub may_follow : (points : List Point) (y : Point) → TimesRise points → ((last : Point) → slice_get points (length points - 1) ≡ Some last → last.time < y.time) → TimesRise (points ++ y ∷ [])
may_follow [] y rises later = (tt, tt)
may_follow (x ∷ []) y rises later =
    let place : length (x ∷ []) - 1 ≡ zero = omega arith in
    ((later x (ap (slice_get (x ∷ [])) place), tt), (tt, tt))
may_follow (x ∷ z ∷ points) y rises later =
    let place : length (x ∷ z ∷ points) - 1 ≡ suc (length (z ∷ points) - 1) = omega arith in
    let rest : TimesRise ((z ∷ points) ++ y ∷ []) = may_follow (z ∷ points) y rises.1 (λ last is. later last (ap (slice_get (x ∷ z ∷ points)) place ∙ is)) in
    (all_later x y (z ∷ points) rises.0 (omega (arith, rises.0.0, at_end (λ q. z.time < q.time) points y rest.0)), rest)
