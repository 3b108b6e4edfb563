use Rattle.std.proofs.Common.{◌≡◌, drop, subst, sym, rules}
use Rattle.gor_merge.specs.Heads.{Wins}
use Rattle.gor_merge.specs.Rounds.{node_at}
use Rattle.gor_merge.proofs.RoundLaws.{root_wins}
use Rattle.gor_merge.proofs.tournament.Tournament.winner.Goals as goal

pub returns : goal.returns
returns c =
    let is : c.flatten.result ≡ node_at c.self.inside.nodes.items 1 = search rules in
    subst (λ heads. Wins heads c.flatten.result) c.self.view_is (subst (λ w. Wins (drop c.self.inside.count c.self.inside.nodes.items) w) (sym is) (root_wins _ _ c.self.invariant))
