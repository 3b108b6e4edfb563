-- What a crash leaves of a session opens again.
use Rattle.std.proofs.Common.{◌≡◌, ◌⊎◌, ℕ, Bool, sym, ap, subst}
use Rattle.std.specs.Prelude.{Ok, Err}
use Rattle.gor_disk.specs.Disk.{DiskView}
use Rattle.gor_model.specs.declared.start.Start.{Start}
use Rattle.gor_model.specs.Changes.{changes}
use Rattle.gor_model.specs.Starts.{IsStart}
use Rattle.gor_flush.specs.Devices.{HoldsPrefix}
use Rattle.gor_flush.specs.Starts.{opened_start}
use Rattle.gor_image.specs.Images.{opens_to}
use Rattle.gor_image.specs.declared.fault.ImageFault.TheVariants as fault
use Rattle.gor_image.proofs.OpenAgain.{opens_again}
use Rattle.gor_store.specs.Shards.{BeginsFrom}
use Rattle.gor_store.specs.Sessions.{OpensAgain, ImagesOpenAgain}
use Rattle.gor_store.proofs.InOrder.{is_start}

slots_are : (shards shard slots : ℕ) (tells : Bool) (seen : DiskView) (faults : ℕ) (start : Start) → BeginsFrom shards shard slots tells seen faults start → start.slots ≡ slots
unfolding opened_start
slots_are shards shard slots tells seen faults start begins = ap (λ (s : Start). s.slots) begins.same

starts : (shards shard slots : ℕ) (tells : Bool) (seen : DiskView) (faults : ℕ) (start : Start) → BeginsFrom shards shard slots tells seen faults start → IsStart start
starts shards shard slots tells seen faults start begins = subst IsStart (sym begins.same) (is_start slots begins.recovered _ _ _ _ _ (begins.sound.start begins.few))

pub images_open_again : {D : Type 0} (tells : Bool) (view : D → DiskView) (faults : D → ℕ) → ImagesOpenAgain tells view faults
images_open_again tells view faults shards shard slots old new start h session told fit k image since now left = again where
  p : HoldsPrefix shards shard start (changes h) 0 image
  p = (session.kept told fit).prefixes k image since now left

  opened : (opens_to image shards shard start.slots ≡ Ok p.holds.holds.map) ⊎ (opens_to image shards shard start.slots ≡ Err (fault.Worn p.holds.holds.map.next))
  opened = opens_again shards shard image start h p.prefix (starts shards shard slots tells (view old) (faults old) start session.begins) session.legal (record { later = p.later; is = sym p.all }) p.holds.holds

  again : OpensAgain shards shard slots start (changes h) image
  again = record {
    later = p.later;
    prefix = p.prefix;
    all = p.all;
    fit = p.holds.fit;
    map = p.holds.holds.map;
    state = p.holds.holds.state;
    opens = subst (λ n. (opens_to image shards shard n ≡ Ok p.holds.holds.map) ⊎ (opens_to image shards shard n ≡ Err (fault.Worn p.holds.holds.map.next)))
        (slots_are shards shard slots tells (view old) (faults old) start session.begins) opened;
  }
