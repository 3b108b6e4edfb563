use Rattle.std.proofs.Common.{◌^◌, sym, subst}
use Rattle.gor_store.specs.Stores.{AreSeated, HaveLeft, HaveMadeNothing}
use Rattle.gor_store.proofs.NinePasses.{eight_lanes, first_seated, first_made, first_left}
use Rattle.gor_store.proofs.store.store_of.Goals as goal

pub returns-clause-rests : goal.returns-clause-rests
returns-clause-rests g c = record {
  eight = eight_lanes c.into_lanes-closing.new.lanes.items c.into_lanes-closing.result c.args.opened.passes.items c.into_lanes-closing.ensures c.requires.first.count;
  all = c.requires.first.all;
  each = subst (AreSeated c.args.opened.hall) (sym c.into_lanes-closing.ensures) (first_seated c.args.opened.hall c.args.opened.passes.items c.requires.first);
  empty = c.requires.rooms.passes;
  room = c.requires.rooms.nine;
  rest = c.requires.others;
  more = c.requires.more;
}

pub returns-clause-fresh : goal.returns-clause-fresh
returns-clause-fresh g c = (
  subst HaveMadeNothing (sym c.into_lanes-closing.ensures) (first_made c.args.opened.hall c.args.opened.passes.items c.requires.first),
  subst (HaveLeft (2 ^ 40)) (sym c.into_lanes-closing.ensures) (first_left c.args.opened.hall c.args.opened.passes.items c.requires.first),
)
