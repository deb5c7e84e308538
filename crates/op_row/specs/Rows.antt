-- Selection and projection, row by row.
use Rattle.std.specs.Prelude.{ℕ, List, [], ◌∷◌, Option, Some, None, if◌then◌else◌}
use Rattle.cedr_base.specs.declared.field.Field.{Field}
use Rattle.cedr_base.specs.declared.row.Row.{Row}
use Rattle.cedr_base.specs.declared.interval.Interval.{Interval}
use Rattle.cedr_expr.specs.declared.test.Test.{Test}
use Rattle.cedr_expr.specs.Tests.{passes}
use Rattle.cedr_expr.specs.Columns.{kept_columns}

-- the row itself, where its payload passes
abbrev pub selected : List Test → Row → List Row
selected tests r = if passes tests r.payload [] then r ∷ [] else []

-- the row with the kept columns
abbrev pub projected : List ℕ → Row → List Row
projected columns r = record r { payload = kept_columns columns r.payload } ∷ []

-- the interval stays as it is
abbrev pub same_life : ℕ → ℕ → Interval
same_life begin end = record { begin = begin; end = end }

-- the payload, where it passes
abbrev pub passing : List Test → List Field → Option (List Field)
passing tests payload = if passes tests payload [] then Some payload else None
