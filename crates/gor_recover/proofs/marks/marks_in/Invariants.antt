use Rattle.std.proofs.Common.{◌≡◌, [], drop}
use Rattle.gor_gate.specs.Bodies.{listed}
use Rattle.gor_image.specs.Images.{read_mark, read_bodies}
use Rattle.gor_recover.proofs.marks.marks_in.Given as goal

abbrev pub invariant-loop-body : goal.invariant-loop-body
invariant-loop-body l = read_bodies read_mark l.list (listed (drop l.body-index l.bodies)) ≡ read_bodies read_mark [] (listed l.bodies)
