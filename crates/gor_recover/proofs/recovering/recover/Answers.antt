use Rattle.std.proofs.Common.{◌≡◌, subst, arith}
use Rattle.std.specs.Prelude.{Ok}
use Rattle.gor_image.specs.Images.{same_home}
use Rattle.gor_recover.proofs.NamesOn.{none_left}
use Rattle.gor_recover.proofs.Opened.{fresh_all_found, fresh_all_recovered, some_marks, store_found, store_stop}
use Rattle.gor_recover.proofs.recovering.recover.Goals as goal

pub returns-then-is_empty-clause-ok : goal.returns-then-is_empty-clause-ok
returns-then-is_empty-clause-ok g c = λ t. fresh_all_found (g.D.Disk.view c.args.disk.now).seen c.args.shards c.args.shard c.args.slots c.fresh.result c.in-Ok.marks.items (none_left c.in-Ok.marks.items (let a = c.is_empty.ensures in let b = c.if-is_empty.true in let ok = c.in-Ok.marks.ok in grind arith)) (c.in-Ok.ensures.ok t) c.fresh.ensures.fresh

pub returns-then-is_empty-clause-start : goal.returns-then-is_empty-clause-start
returns-then-is_empty-clause-start g c = fresh_all_recovered c.args.shards c.args.shard c.args.slots c.fresh.result c.fresh.ensures.fresh

pub open_store-requires-clause-home : goal.open_store-requires-clause-home
open_store-requires-clause-home g c = record {
  shards = c.args.shards;
  shard = c.args.shard;
  are = c.in-Ok.ensures.home c.args.shards c.args.shard (subst (λ l. same_home c.args.shards c.args.shard l ≡ Ok tt) c.deref.ensures.value c.in_default.ensures.ok);
}

pub returns-clause-ok : goal.returns-clause-ok
returns-clause-ok g c = λ t. store_found (g.D.Disk.view c.args.disk.now).seen c.args.shards c.args.shard c.args.slots g.D.Disk.tells (g.D.Disk.view c.read_marks.new.disk).seen t (c.read_marks.ensures.same t).seen
    c.in-Ok.marks.items (some_marks c.in-Ok.marks.items (let a = c.is_empty.ensures in let b = c.if-is_empty.false in let ok = c.in-Ok.marks.ok in grind arith)) (c.in-Ok.ensures.ok t) (subst (λ l. same_home c.args.shards c.args.shard l ≡ Ok tt) c.deref.ensures.value c.in_default.ensures.ok) c.open_store.result c.open_store.ensures.ok

pub returns-clause-err : goal.returns-clause-err
returns-clause-err g c = λ t. store_stop (g.D.Disk.view c.args.disk.now).seen c.args.shards c.args.shard c.args.slots (g.D.Disk.view c.read_marks.new.disk).seen (c.read_marks.ensures.same t).seen
    c.in-Ok.marks.items (some_marks c.in-Ok.marks.items (let a = c.is_empty.ensures in let b = c.if-is_empty.false in let ok = c.in-Ok.marks.ok in grind arith)) (c.in-Ok.ensures.ok t) (subst (λ l. same_home c.args.shards c.args.shard l ≡ Ok tt) c.deref.ensures.value c.in_default.ensures.ok) c.open_store.result (c.open_store.ensures.err t)
