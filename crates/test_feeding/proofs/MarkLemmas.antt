-- What is known of first marks.
use Rattle.std.proofs.Common.{ℕ, zero, suc, arith}
use Rattle.std.specs.Prelude.{replicate}
use Rattle.cedr_table.specs.Operators.{AreTimes}

-- first marks are times
pub zeros_are_times : (n : ℕ) → AreTimes (replicate n 0)
zeros_are_times zero = tt
zeros_are_times (suc n) = (omega arith, zeros_are_times n)
