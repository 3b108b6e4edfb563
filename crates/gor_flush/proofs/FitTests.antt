-- The truth value of fit images is that of their being fit.
use Rattle.gor_flush.specs.FitTest.{is_fit, FitIsTold}
use Rattle.gor_image.proofs.FitTold.{fit_told, told_true, true_told_by}

pub fit_is_told : FitIsTold
unfolding is_fit
fit_is_told shards shard image = (told_true (fit_told shards shard image), true_told_by (fit_told shards shard image))
