use Rattle.std.proofs.Common.{rules, ◌+◌, length, ◌≡◌, sym, arith}
use Rattle.gor_hall.specs.Halls.{start_of}
use Rattle.gor_flush.specs.declared.part.Part.TheVariants as part
use Rattle.gor_store.proofs.OpenShards.{begins_with_device}
use Rattle.gor_store.proofs.shards.close_shard.Goals as goal

pub first_device-requires : goal.first_device-requires
first_device-requires g c =
    let size : length c.close.result.items ≡ (start_of c.args.shard.hall).slots + 3 = search rules in
    begins_with_device g.D.Disk.tells g.D.Disk.view g.D.Disk.faults (start_of c.args.shard.hall) c.close.ensures.history.0 c.close.result.items (omega (arith, size)) c.close.ensures.history.2

pub returns : goal.returns
returns g c = record {
  history = c.close.ensures.history.0;
  whole = c.close.ensures.history.1;
  device = c.first_device.result;
  disk_is = sym c.close-2.ensures;
  stands = c.close.ensures.history.2 0 (part.Device c.first_device.result) c.first_device.ensures;
}
