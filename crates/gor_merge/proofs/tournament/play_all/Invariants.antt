-- The matches from the node on are played.
use Rattle.std.proofs.Common.{◌≡◌, ◌≤◌, drop}
use Rattle.gor_merge.specs.Rounds.{HasNodes, IsPlayedFrom}
use Rattle.gor_merge.proofs.tournament.play_all.Given as goal

abbrev pub invariant-loop-node : goal.invariant-loop-node
invariant-loop-node l = record {
  counted : HasNodes l.count l.nodes;
  within : l.node ≤ l.count;
  heads : drop l.count l.nodes ≡ drop l.count l.fn.nodes;
  played : IsPlayedFrom l.node l.count l.nodes;
}

abbrev pub decreases-loop-node : goal.decreases-loop-node
decreases-loop-node l = l.node
