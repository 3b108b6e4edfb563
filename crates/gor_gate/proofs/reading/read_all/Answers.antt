use Rattle.std.proofs.Common.{arith, ◌^◌, ◌<◌, length, sym, subst}
use Rattle.gor_gate.specs.Bodies.{AreInside}
use Rattle.gor_gate.proofs.Lists.{gates_inside}
use Rattle.gor_gate.proofs.reading.read_all.Goals as goal

pub returns-clause-inside : goal.returns-clause-inside
returns-clause-inside g c =
    let fits : length c.deref.result.now < 2 ^ 63 = omega (arith, c.in_ok-bytes.ensures.fits) in
    subst (AreInside (2 ^ 63)) (sym c.in_ok-bodies.ensures.bodies) (gates_inside c.deref.result.now (2 ^ 63) fits)
