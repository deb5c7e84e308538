-- Rows of which the begins and the payloads alone matter.
use Rattle.std.specs.Prelude.{ℕ, ◌≡◌, ◌<◌, ◌≤◌, List, [], ◌∷◌, Bool, true, ◌&&◌, nat_le, nat_lt, map}
use Rattle.cedr_base.specs.declared.time.TheConstants.{FOREVER}
use Rattle.cedr_base.specs.declared.row.Row.{Row}
use Rattle.cedr_base.specs.declared.change.Change.{Change}
use Rattle.cedr_base.specs.declared.change.Change.TheVariants.{Add, Cut}
use Rattle.cedr_base.specs.Rows.{count_of}
use Rattle.change_laws.specs.Times.{later}
use Rattle.cedr_table.specs.Operators.{Tables, table_at}

-- the row as if it never ended
abbrev pub endless : Row → Row
endless r = record r { end = FOREVER }

-- the rows as if they never ended
abbrev pub all_endless : List Row → List Row
all_endless rows = map endless rows

-- the tables with all rows as if they never ended
abbrev pub endless_tables : Tables → Tables
endless_tables tables = map all_endless tables

-- the row begins at a time or later, and before another one
abbrev pub begins_within : ℕ → ℕ → Row → Bool
begins_within from before r = nat_le from r.begin && nat_lt r.begin before

-- the scope of a row, which begins with it, ends after a time
abbrev pub scope_reaches : ℕ → ℕ → Row → Bool
scope_reaches scope time r = nat_lt time (later r.begin scope)

-- the scope of each row, which begins with it, ends after a time
abbrev pub AllReach : ℕ → ℕ → List Row → Type 0
AllReach scope time rows = (r : Row) → 0 < count_of r rows → scope_reaches scope time r ≡ true

-- the same of the rows of each port
abbrev pub PortsReach : ℕ → ℕ → Tables → Type 0
PortsReach scope time tables = (port : ℕ) → AllReach scope time (table_at tables port)

-- each row never ends
abbrev pub AreEndless : List Row → Type 0
AreEndless rows = (r : Row) → 0 < count_of r rows → r.end ≡ FOREVER

-- a row that a change cuts is there
abbrev pub HasRow : List Row → Change → Type 0
HasRow rows (Add r) = Unit {0}
HasRow rows (Cut r e) = 0 < count_of (endless r) rows

-- of each row there is a copy, and each begins within the times
abbrev pub AreInScope : ℕ → ℕ → List (Row × ℕ) → Type 0
AreInScope from before [] = Unit {0}
AreInScope from before (e ∷ es) = ((0 < e.1) × (from ≤ e.0.begin) × (e.0.begin < before)) × AreInScope from before es
