use Rattle.std.proofs.Common.{◌≡◌, length}
use Rattle.gor_folder.proofs.disks.disks_for.Given as goal

abbrev pub invariant-loop-shard : goal.invariant-loop-shard
invariant-loop-shard g l = length l.disks.items ≡ l.shard
