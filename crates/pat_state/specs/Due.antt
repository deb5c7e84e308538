-- Rows with tags in a heap, by their begins.
use Rattle.std.specs.Prelude.{ℕ, ◌<◌, List}
use Rattle.std.specs.List.{Contains}
use Rattle.std.specs.declared.cmp.Ordering.{Ordering}
use Rattle.std.specs.Ordering.{nat_cmp, ordering_then}
use Rattle.std.specs.declared.cmp.Reverse.{Reverse}
use Rattle.cedr_base.specs.declared.field.Field.{Field}
use Rattle.cedr_base.specs.declared.row.Row.{Row}
use Rattle.cedr_base.specs.Order.{payload_cmp}
use Rattle.cedr_base.specs.Rows.{count_of}

-- a row that begins earlier is greater, and of those that begin together the one with the lesser tag, and then payload
abbrev pub start_cmp : Reverse (ℕ × ℕ × List Field) → Reverse (ℕ × ℕ × List Field) → Ordering
start_cmp x y = ordering_then (ordering_then (nat_cmp y.0.0 x.0.0) (nat_cmp y.0.1 x.0.1)) (payload_cmp y.0.2 x.0.2)

-- a row with its tag as its end
abbrev pub start_row : Reverse (ℕ × ℕ × List Field) → Row
start_row x = record { end = x.0.1; begin = x.0.0; payload = x.0.2 }

-- rows with their tags, and those that are noted to be due
pub record TaggedRows : Type 0 where
  pub tags : List Row
  pub due : List Row

-- each row of a bag is among others, and there may be more
pub record AreDue (rows due : List Row) : Type 0 where
  pub each : (r : Row) → 0 < count_of r rows → Contains due r
