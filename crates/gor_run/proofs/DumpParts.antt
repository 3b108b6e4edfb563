-- The rows of a dump.
use Rattle.std.proofs.Common.{◌≡◌, ℕ, ◌+◌, ◌<◌, List, [], ◌∷◌, ◌++◌, Bool, map, take, drop, length, zero, suc, refl, ap, arith}
use Rattle.std.specs.List.Sorted.{IsSortedBy}
use Rattle.std.proofs.lemmas.List.{get_or-map, length-map}

-- what is sorted by what f gives is sorted once f is taken of each
pub IsSortedBy-map : {X Y : Type 0} (f : X → Y) (lt : Y → Y → Bool) (xs : List X) → IsSortedBy (λ a b. lt (f a) (f b)) xs → IsSortedBy lt (map f xs)
IsSortedBy-map f lt [] up = λ k d low high. absurd (omega (arith, high))
IsSortedBy-map f lt (x ∷ xs) up = λ k d low high.
    let same : length (map f (x ∷ xs)) ≡ length (x ∷ xs) = length-map (x ∷ xs) f in
    let within : k + 1 < length (x ∷ xs) = omega (arith, high, same) in
    rw (get_or-map f (x ∷ xs) (k + 1) x d within, get_or-map f (x ∷ xs) k x d (omega (arith, within)))
    (up k x low within)

rest_none : {X : Type 0} (n : ℕ) (xs : List X) → n ≡ length xs → drop n xs ≡ []
rest_none zero [] same = refl
rest_none zero (x ∷ xs) same = absurd (omega (arith, same))
rest_none (suc n) [] same = absurd (omega (arith, same))
rest_none (suc n) (x ∷ xs) same = rest_none n xs (omega (arith, same))

front_whole : {X : Type 0} (n : ℕ) (xs : List X) → n ≡ length xs → take n (xs ++ []) ≡ xs
front_whole zero [] same = refl
front_whole zero (x ∷ xs) same = absurd (omega (arith, same))
front_whole (suc n) [] same = absurd (omega (arith, same))
front_whole (suc n) (x ∷ xs) same = ap (λ l. x ∷ l) (front_whole n xs (omega (arith, same)))

-- a part that is lent whole is written back whole
pub written_whole : {X : Type 0} (n : ℕ) (new old : List X) → n ≡ length new → length new ≡ length old → take n (new ++ drop (length new) old) ≡ new
written_whole n new old whole same = rw (rest_none (length new) old same) (front_whole n new whole)
