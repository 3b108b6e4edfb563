-- A body that is being made, and the count of bytes that it may grow by without memory.
use Rattle.std.specs.Prelude.{ℕ, List}

pub record Filling : Type 0 where
  pub body : List ℕ
  pub spare : ℕ
