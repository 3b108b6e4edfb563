use Rattle.std.proofs.Common.{◌^◌, arith}
use Rattle.gor_recover.proofs.BodyLoop.{inside_at}
use Rattle.gor_recover.proofs.marks.marks_in.Goals as goal

pub overflow_add-body : goal.overflow_add-body
overflow_add-body c = let inside = inside_at c.args.bodies.now (2 ^ 63) c.loop-body.body-index c.body-item.result c.requires c.loop-body-test.true c.body-item.is in omega arith

pub read_next-requires : goal.read_next-requires
read_next-requires c = let inside = inside_at c.args.bodies.now (2 ^ 63) c.loop-body.body-index c.body-item.result c.requires c.loop-body-test.true c.body-item.is in omega arith
