-- What is told of the rows of a segment besides their number.
use Rattle.std.specs.Prelude.{ℕ, List, Option, Bool}
use Rattle.cedr_base.specs.declared.field.Field.{Field}

-- The totals of some rows.
-- sums: a sum for each summed column, modulo 2^128.
-- extremes: the least field of each column of which it is asked for, then the greatest one likewise; none where no row
-- has the column.
pub record Tally : Type 0 where
  pub sums : List ℕ
  pub extremes : List (Option Field)

-- A row that comes to segments or goes from them.
-- up: whether it comes.
-- payload: its payload.
-- numbers: what it adds to each sum, modulo 2^128, or what takes that away.
pub record PassedTotals : Type 0 where
  pub up : Bool
  pub payload : List Field
  pub numbers : List ℕ
