-- Rows of ports, each of which is filed by the tag of its key as well.
use Rattle.std.specs.Prelude.{ℕ, ◌≡◌, List, [], Option, Some, None, nat_eq, map}
use Rattle.std.specs.List.{filter, All}
use Rattle.cedr_base.specs.declared.row.Row.{Row}
use Rattle.cedr_expr.specs.declared.test.Test.{Test}
use Rattle.cedr_table.specs.Operators.{Tables}
use Rattle.pat_state.specs.declared.keyed.Keyed.{Keyed}
use Rattle.pat_state.specs.declared.grouped.Grouped.{Grouped}
use Rattle.pat_state.specs.Keys.{key_tag, IsKey, LackTag}
use Rattle.pat_state.specs.Tags.{IsTagged}

-- the rows of a port, or those that have a tag
abbrev pub seen : Option ℕ → Keyed → List Row
seen None port = port.rows
seen (Some tag) port = filter (λ r. nat_eq r.end tag) port.tags

-- the same of each of some ports
abbrev pub all_seen : Option ℕ → List Keyed → Tables
all_seen tag ports = map (seen tag) ports

-- the rows of the ports
abbrev pub grouped_rows : Grouped → Tables
grouped_rows grouped = all_seen None grouped.ports.items

-- each row of a port has its tag
pub record IsKeyed (width : ℕ) (column : Option ℕ) (port : Keyed) : Type 0 where
  pub tagged : IsTagged (key_tag width column) port.rows port.tags

-- each row of the ports has its tag, which all rows of a choice have in common
pub record AreGrouped (tests : List Test) (grouped : Grouped) : Type 0 where
  pub key : IsKey tests grouped.number grouped.width grouped.column
  pub ports : All (IsKeyed grouped.width grouped.column) grouped.ports.items

-- a port has no row
abbrev pub IsBare : Keyed → Type 0
IsBare port = port.rows ≡ []

-- no row of a port has the tag 0
abbrev pub LacksOthers : Keyed → Type 0
LacksOthers port = LackTag 0 port.tags
