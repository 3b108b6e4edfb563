use Rattle.std.proofs.Common.{List, ◌∷◌, refl, ap, ◌∙◌, sym, arith}
use Rattle.gor_disk.specs.Disk.{NothingPending}
use Rattle.gor_hall.specs.Halls.{start_of}
use Rattle.gor_store.proofs.OpeningLaws.{first_is, begins_as, refused_as, untouched}
use Rattle.gor_store.proofs.store.Store.open.Goals as goal

pub returns-in_default-clause-refused : goal.returns-in_default-clause-refused
returns-in_default-clause-refused g c disk others is = (
  refl,
  disk,
  is,
  untouched c.args.slots g.D.Disk.tells g.D.Disk.view g.D.Disk.faults disk
      (λ t. first_is (λ (d : g.row.D.Denot). NothingPending (g.D.Disk.view d)) c.args.disks.items disk (let many = c.requires.sixteen in omega (arith, many)) (λ d os e. let same = sym is ∙ e in cc) (c.requires.pending t)),
)

pub take_first-disk-requires : goal.take_first-disk-requires
take_first-disk-requires g c = let many = c.requires.sixteen in omega (arith, many)

pub open_shard-requires-clause-home : goal.open_shard-requires-clause-home
open_shard-requires-clause-home g c = let one = c.requires.one in record { some = omega (arith, one); few = omega (arith, one); below = omega (arith, one) }

pub open_shard-requires-clause-pending : goal.open_shard-requires-clause-pending
open_shard-requires-clause-pending g c t =
    first_is (λ (d : g.row.D.Denot). NothingPending (g.D.Disk.view d)) c.args.disks.items c.take_first-disk.result (let many = c.requires.sixteen in omega (arith, many))
    (λ disk others is. (c.take_first-disk.ensures.taken disk others is).0) (c.requires.pending t)

pub returns-in-Ok-open_shard-clause-begins : goal.returns-in-Ok-open_shard-clause-begins
returns-in-Ok-open_shard-clause-begins g c disk others is = let taken = c.take_first-disk.ensures.taken disk others is in (
  c.store_of.ensures.others ∙ taken.1,
  ap (λ hall. (start_of hall).slots) c.store_of.ensures.hall ∙ c.in-Ok-open_shard.ensures.count,
  begins_as c.args.slots g.D.Disk.tells g.D.Disk.view g.D.Disk.faults c.args.shards c.take_first-disk.result disk (start_of c.in-Ok-open_shard.opened.hall) (start_of c.store_of.result.hall) c.requires.one taken.0
      (ap (λ hall. start_of hall) (sym c.store_of.ensures.hall)) c.in-Ok-open_shard.ensures.start,
)

pub returns-in-Err-clause-refused : goal.returns-in-Err-clause-refused
returns-in-Err-clause-refused g c disk others is = let taken = c.take_first-disk.ensures.taken disk others is in (
  refl,
  c.in-Err.refused.disk,
  c.put_back.ensures ∙ ap (λ (os : List g.row.D.Denot). c.in-Err.refused.disk ∷ os) taken.1,
  refused_as c.args.slots g.D.Disk.tells g.D.Disk.view g.D.Disk.faults c.args.shards c.take_first-disk.result disk c.in-Err.refused.disk c.in-Err.refused.fault c.requires.one taken.0 record {
    goes = c.in-Err.ensures.goes;
    held = c.in-Err.ensures.held;
    unwritten = c.in-Err.ensures.unwritten;
    err = c.in-Err.ensures.err;
    cause = c.in-Err.ensures.cause;
  },
)
