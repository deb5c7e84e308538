-- The rows of the ports of which two are to have one.
use Rattle.std.specs.Prelude.{◌≡◌, List, [], map}
use Rattle.std.specs.List.{All}
use Rattle.cedr_expr.specs.declared.test.Test.{Test}
use Rattle.cedr_table.specs.Operators.{Tables}
use Rattle.pat_state.specs.declared.crossing.Crossing.{Crossing}
use Rattle.pat_state.specs.Tied.{AreCrossed}
use Rattle.pat_atleast.specs.declared.pairs.Pairs.{Pairs}

-- the rows of each of some ports
abbrev pub rows_by_port : List Crossing → Tables
rows_by_port ports = map (λ c. c.rows) ports

-- the rows of the ports
abbrev pub crossed_rows : Pairs → Tables
crossed_rows pairs = rows_by_port pairs.ports.items

-- each row of each port has its tags
abbrev pub AreAllCrossed : List Test → Pairs → Type 0
AreAllCrossed tests pairs = All (AreCrossed pairs.width tests) pairs.ports.items

-- a port has no row
abbrev pub HaveNoRow : Crossing → Type 0
HaveNoRow crossing = crossing.rows ≡ []
