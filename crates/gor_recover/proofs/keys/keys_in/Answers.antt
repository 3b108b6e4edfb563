use Rattle.std.proofs.Common.{◌≡◌, ◌^◌, List, [], map, drop, refl, sym, ap, ◌∙◌, arith}
use Rattle.std.proofs.lemmas.List.{drop_all}
use Rattle.gor_gate.specs.Bodies.{listed}
use Rattle.gor_gate.specs.declared.bodies.Body.{Body}
use Rattle.gor_image.specs.Images.{read_keys, read_bodies}
use Rattle.gor_recover.specs.Parts.{key_shown}
use Rattle.gor_recover.specs.KeyReads.{list_read}
use Rattle.gor_recover.proofs.BodyLoop.{inside_at}
use Rattle.gor_recover.proofs.KeysRise.{listed_rise}
use Rattle.gor_recover.proofs.keys.keys_in.Goals as goal

pub overflow_add-body : goal.overflow_add-body
overflow_add-body c = let inside = inside_at c.args.bodies.now (2 ^ 63) c.loop-index.index c.index-bodies-index.result c.requires c.loop-index-test.true c.index-bodies-index.is in omega arith

pub read_next-requires : goal.read_next-requires
read_next-requires c =
    let inside = inside_at c.args.bodies.now (2 ^ 63) c.loop-index.index c.index-bodies-index.result c.requires c.loop-index-test.true c.index-bodies-index.is in
    omega (arith, c.deref.ensures.len)

pub returns-clause-rise : goal.returns-clause-rise
returns-clause-rise c =
    let none : drop c.loop-index.index c.args.bodies.now ≡ [] = drop_all c.loop-index.index c.args.bodies.now (omega (arith, c.loop-index-test.false)) in
    listed_rise c.args.sealed c.args.upto (listed c.args.bodies.now) (map key_shown c.loop-index.list.records.items)
    (record {
      keys = list_read c.loop-index.index c.loop-index.list;
      read = sym c.loop-index.invariant.so_far ∙ ap (λ (l : List Body). read_bodies (read_keys c.args.sealed) (list_read c.loop-index.index c.loop-index.list) (listed l)) none;
      are = refl;
    })
