-- A shard's opening, seen from the store.
use Rattle.std.proofs.Common.{◌≡◌, ℕ, ◌<◌, List, [], ◌∷◌, length, refl, sym, subst, arith, Bool}
use Rattle.std.specs.Prelude.{IsTrue}
use Rattle.std.specs.List.{AllByRecursion}
use Rattle.gor_disk.specs.Disk.{DiskView, NothingPending}
use Rattle.gor_model.specs.declared.start.Start.{Start}
use Rattle.gor_flush.proofs.Opens.{read_holds}
use Rattle.gor_recover.proofs.OnlyReads.{nothing_read}
use Rattle.gor_recover.specs.declared.recovered.OpenFault.{OpenFault}
use Rattle.gor_recover.specs.declared.recovered.OpenFault.TheVariants as refused
use Rattle.gor_store.specs.Shards.{BeginsFrom}
use Rattle.gor_store.specs.Stores.{WasRefused}

-- what all disks are, the first is
pub first_is : {D : Type 0} (P : D → Type 0) (disks : List D) (first : D) → 1 < length disks → ((disk : D) (others : List D) → disks ≡ disk ∷ others → first ≡ disk) → AllByRecursion P disks → P first
first_is P [] first some is all = absurd (omega (arith, some))
first_is P (disk ∷ others) first some is all = subst P (sym (is disk others refl)) all.0

module _ {D : Type 0} (slots : ℕ) (tells : Bool) (view : D → DiskView) (faults : D → ℕ) where
  pub begins_as : (shards : ℕ) (first disk : D) (start other : Start) → shards ≡ 1 → first ≡ disk → start ≡ other
      → BeginsFrom shards 0 slots tells (view first) (faults first) start → BeginsFrom 1 0 slots tells (view disk) (faults disk) other
  begins_as shards first disk start other one same is begins =
      subst (λ (n : ℕ). BeginsFrom n 0 slots tells (view disk) (faults disk) other) one
      (subst (λ (d : D). BeginsFrom shards 0 slots tells (view d) (faults d) other) same (subst (BeginsFrom shards 0 slots tells (view first) (faults first)) is begins))

  pub refused_as : (shards : ℕ) (first disk back : D) (fault : OpenFault) → shards ≡ 1 → first ≡ disk → WasRefused shards 0 slots tells view faults fault first back → WasRefused 1 0 slots tells view faults fault disk back
  refused_as shards first disk back fault one same refused =
      subst (λ (n : ℕ). WasRefused n 0 slots tells view faults fault disk back) one (subst (λ (d : D). WasRefused shards 0 slots tells view faults fault d back) same refused)

  -- before the disk was called
  pub untouched : (disk : D) → (IsTrue tells → NothingPending (view disk)) → WasRefused 1 0 slots tells view faults refused.NoMemory disk disk
  untouched disk pending = record {
    goes = λ t. record { later = omega arith; past = λ k file low. refl };
    held = λ t. read_holds 1 0 (view disk) (view disk) (pending t) (nothing_read (view disk));
    unwritten = λ t. tt;
    err = λ t. tt;
    cause = refl;
  }
