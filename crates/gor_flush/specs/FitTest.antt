-- Whether an image is fit, as a truth value.
use Rattle.std.specs.Prelude.{◌≡◌, ℕ, Bool, true}
use Rattle.gor_disk.specs.Disk.{Contents}
use Rattle.gor_image.specs.Fit.{IsFitFor}
use Rattle.gor_image.proofs.FitTold.{holds, fit_told}

unfoldable pub is_fit : ℕ → ℕ → Contents → Bool
is_fit shards shard image = holds (fit_told shards shard image)

-- it is true where the image is fit, and nowhere else
abbrev pub FitIsTold : Type 0
FitIsTold = (shards shard : ℕ) (image : Contents) → (is_fit shards shard image ≡ true → IsFitFor shards shard image) × (IsFitFor shards shard image → is_fit shards shard image ≡ true)
