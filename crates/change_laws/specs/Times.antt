-- Computed times.
use Rattle.std.specs.Prelude.{ℕ, ◌+◌, ◌≤◌, ◌^◌, min}
use Rattle.cedr_base.specs.declared.time.TheConstants.{FOREVER}

-- the time a while after another, and FOREVER where that isn't finite
abbrev pub later : ℕ → ℕ → ℕ
later t d = min (t + d) FOREVER

-- a while is from 1 to 2^40
pub record IsWhile (d : ℕ) : Type 0 where
  pub least : 1 ≤ d
  pub most : d ≤ 2 ^ 40
