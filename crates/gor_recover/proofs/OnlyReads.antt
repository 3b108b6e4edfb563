-- Calls that only read, one after another.
use Rattle.std.proofs.Common.{◌≡◌, ⊎_elim, ℕ, ◌<◌, ◌≤◌, refl, ap, ◌∙◌, arith}
use Rattle.std.proofs.lemmas.Bool.{cases_lt}
use Rattle.gor_disk.specs.declared.disk.FileId.{FileId}
use Rattle.gor_disk.specs.Disk.{DiskView, held_now}
use Rattle.gor_recover.specs.Openings.{OnlyRead}

-- no call
pub nothing_read : (old : DiskView) → OnlyRead old old
nothing_read old = record { later = omega arith; past = λ t f h. refl; same = λ t f after before. absurd (omega arith); seen = λ f. refl }

-- one after another
pub read_both : (old mid new : DiskView) → OnlyRead old mid → OnlyRead mid new → OnlyRead old new
read_both old mid new first second = record {
  later = let a = first.later in let b = second.later in omega arith;
  past = λ t f h. second.past t f (let a = first.later in omega arith) ∙ first.past t f h;
  same = λ t f after before. ⊎_elim
      (λ (late : mid.moment < t). second.same t f late before ∙ held_then f)
      (λ (early : t ≤ mid.moment). second.past t f early ∙ first.same t f after early)
      (cases_lt mid.moment t);
  seen = λ f. second.seen f ∙ first.seen f;
} where
  held_then : (f : FileId) → held_now mid f ≡ held_now old f
  held_then f = ⊎_elim
      (λ (moved : old.moment < mid.moment). first.same mid.moment f moved (omega arith))
      (λ (still : mid.moment ≤ old.moment). let later = first.later in let same : mid.moment ≡ old.moment = omega arith in first.past mid.moment f still ∙ ap (λ (t : ℕ). old.held t f) same)
      (cases_lt old.moment mid.moment)
