use Rattle.gor_store.proofs.Restoring.{rows_are, floor_is, raised_start}
use Rattle.gor_store.proofs.directory.directory_of.Goals as goal

pub restored-requires : goal.restored-requires
restored-requires c = rows_are c.args.slots c.args.recovered.now c.deref.result.now c.deref.ensures.value c.requires

pub raise_floor-requires : goal.raise_floor-requires
raise_floor-requires c = floor_is c.args.slots c.args.recovered.now c.requires

pub returns : goal.returns
returns c =
    raised_start c.args.slots c.args.recovered.now c.deref.result.now c.in_ok-directory.directory c.raise_floor.new.directory c.deref.ensures.value c.raise_floor.ensures c.in_ok-directory.ensures
