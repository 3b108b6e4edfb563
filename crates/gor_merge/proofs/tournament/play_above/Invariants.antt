-- At most the match above the node is to be played.
use Rattle.std.proofs.Common.{◌≡◌, ◌+◌, ◌≤◌, ◌<◌, drop}
use Rattle.gor_merge.specs.Rounds.{HasNodes, IsOverBut}
use Rattle.gor_merge.proofs.tournament.play_above.Given as goal

abbrev pub invariant-loop-node : goal.invariant-loop-node
invariant-loop-node l = record {
  counted : HasNodes l.count l.nodes;
  one : 1 ≤ l.node;
  within : l.node < l.count + l.count;
  heads : drop l.count l.nodes ≡ drop l.count l.fn.nodes;
  played : IsOverBut l.node l.count l.nodes;
}

abbrev pub decreases-loop-node : goal.decreases-loop-node
decreases-loop-node l = l.node
