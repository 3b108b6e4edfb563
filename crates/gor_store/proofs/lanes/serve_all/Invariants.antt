use Rattle.std.proofs.Common.{◌≡◌, ◌*◌, ◌≤◌, take, drop}
use Rattle.gor_hall.specs.Passes.{left_of_pass}
use Rattle.gor_store.specs.Lines.{RestsAgain}
use Rattle.gor_store.specs.Lanes.{AreTaken, needs, ServesAll}
use Rattle.gor_store.proofs.lanes.serve_all.Given as goal

abbrev pub invariant-loop-line : goal.invariant-loop-line
invariant-loop-line g l = record {
  place : l.place ≡ l.line-index;
  rests : RestsAgain l.shard (3 * l.line-index) l.initial.pass l.pass;
  served : ServesAll (take l.line-index l.lines) l.initial.pass l.pass l.initial.answers.items l.answers.items;
  left : needs (drop l.line-index l.lines) ≤ left_of_pass l.pass;
  taken : AreTaken (drop l.line-index l.lines);
}
