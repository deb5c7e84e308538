-- What is kept of the line that has begun.
use Rattle.std.specs.Prelude.{ℕ, Bool, List}

-- what came of the line that has begun, and whether the rest of it is left out
pub record Begun : Type 0 where
  pub line : List ℕ
  pub leaves : Bool
