-- Known bytes that grow or are consumed in several parts.
use Rattle.std.proofs.Common.{ℕ, List, [], ◌++◌, Option, Some, None, refl, sym, ap, ◌∙◌, append_assoc, append-nil}
use Rattle.std.specs.Io.KnownBytes.{Appends, Consumes}

pub grown_by_none : (a : Option (List ℕ)) → Appends a a []
grown_by_none None = tt
grown_by_none (Some x) = sym (append-nil x)

pub grown_twice : (a b c : Option (List ℕ)) (bs cs : List ℕ) → Appends a b bs → Appends b c cs → Appends a c (bs ++ cs)
grown_twice None b c bs cs p q = tt
grown_twice (Some x) None c bs cs p q = absurd p
grown_twice (Some x) (Some y) None bs cs p q = absurd q
grown_twice (Some x) (Some y) (Some z) bs cs p q = q ∙ (ap (λ (l : List ℕ). l ++ cs) p ∙ append_assoc x bs cs)

pub consumed_none : (a : Option (List ℕ)) → Consumes a a []
consumed_none None = tt
consumed_none (Some x) = refl

pub consumed_twice : (a b c : Option (List ℕ)) (bs cs : List ℕ) → Consumes a b bs → Consumes b c cs → Consumes a c (bs ++ cs)
consumed_twice None b c bs cs p q = tt
consumed_twice (Some x) None c bs cs p q = absurd p
consumed_twice (Some x) (Some y) None bs cs p q = absurd q
consumed_twice (Some x) (Some y) (Some z) bs cs p q = p ∙ (ap (λ (l : List ℕ). bs ++ l) q ∙ sym (append_assoc bs cs z))
