-- A pass of a shard of two slots, as a test uses it.
use Rattle.std.specs.Prelude.{◌≡◌, []}
use Rattle.gor_hall.specs.declared.hall.Hall.{Hall}
use Rattle.gor_hall.specs.declared.pass.Pass.{Pass}
use Rattle.gor_hall.specs.Halls.{start_of, IsPassOf}
use Rattle.gor_hall.specs.Passes.{held}

module _ {V : Type 0} where
  -- the pass is of this shard of two slots, and holds nothing
  pub record IsAtHand (shard : Hall V) (pass : Pass) : Type 0 where
    pub own : IsPassOf shard pass
    pub nothing : held pass ≡ []
    pub slots : (start_of shard).slots ≡ 2
