-- Sums over the choices of so many of some tables and of one row of each.
use Rattle.std.specs.Prelude.{ℕ, List, sum_by}
use Rattle.cedr_base.specs.declared.row.Row.{Row}
use Rattle.cedr_table.specs.Operators.{Tables}
use Rattle.cedr_table.specs.Choices.{choices}
use Rattle.pat_atleast.specs.Arrangements.{some_of}

-- what the choices add up to
abbrev pub sum_some : (List Row → ℕ) → ℕ → Tables → ℕ
sum_some w n tables = sum_by (λ some. sum_by w (choices some)) (some_of n tables)
