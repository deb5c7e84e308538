-- What an operator means, and what it owes, over the tables and the marks of its ports.
use Rattle.std.specs.Prelude.{ℕ, ◌≡◌, ◌<◌, ◌≤◌, List, [], ◌∷◌, ◌++◌, length, slice_index_or, slice_index, slice_set, min, Bool, true}
use Rattle.cedr_base.specs.declared.time.TheConstants.{FOREVER}
use Rattle.cedr_base.specs.declared.row.Row.{Row}
use Rattle.cedr_base.specs.declared.change.Change.{Change}
use Rattle.cedr_base.specs.Rows.{count_of, AreRows, SameRows}
use Rattle.cedr_base.specs.Changes.{sync_of, MayFollow}
use Rattle.change_laws.specs.Repairs.{Repair}

-- a table for each port
abbrev pub Tables : Type 0
Tables = List (List Row)

-- What an operator means.
-- ports: how many ports it has.
-- result: the rows of its result, at the tables of its ports.
-- bound: the guarantee that it may hand on, at the tables and the marks of its ports.
-- may_hold: whether its state may still hold a row of a port, trimmed at these tables and marks.
-- echoes: whether it answers each change by that change alone.
-- stateless: whether it keeps nothing between changes.
pub record Meaning : Type 0 where
  pub ports : ℕ
  pub result : Tables → List Row
  pub bound : Tables → List ℕ → ℕ
  pub may_hold : Tables → List ℕ → ℕ → Row → Bool
  pub echoes : Bool
  pub stateless : Bool

-- the table of a port, and an empty one where there is no such port
abbrev pub table_at : Tables → ℕ → List Row
table_at tables port = slice_index_or tables port []

-- the mark of a port, and 0 where there is no such port
abbrev pub mark_at : List ℕ → ℕ → ℕ
mark_at marks port = slice_index marks port

-- the tables with another one on a port
abbrev pub with_table : Tables → ℕ → List Row → Tables
with_table tables port rows = slice_set tables port rows

-- each table has rows only
pub record HaveRows (tables : Tables) : Type 0 where
  pub each : (port : ℕ) → AreRows (table_at tables port)

-- a change may come on a port: it may follow in the port's table, and isn't seen before the port's mark
pub record CanTake (tables : Tables) (marks : List ℕ) (port : ℕ) (change : Change) : Type 0 where
  pub port_is : port < length tables
  pub legal : MayFollow (table_at tables port) [] change
  pub from : mark_at marks port ≤ sync_of change

-- a list of changes has gained a repair of a table
pub record Gains (old new : List Row) (t : ℕ) (before after : List Change) : Type 0 where
  pub changes : List Change
  pub appended : after ≡ before ++ changes
  pub repair : Repair old new t changes

-- each mark is at least the earlier one
abbrev pub AllRise : List ℕ → List ℕ → Type 0
AllRise [] [] = Unit {0}
AllRise [] (n ∷ ns) = ⊥
AllRise (m ∷ ms) [] = ⊥
AllRise (m ∷ ms) (n ∷ ns) = (m ≤ n) × AllRise ms ns

-- the least mark
abbrev pub least_of : List ℕ → ℕ
least_of [] = FOREVER
least_of (m ∷ ms) = min m (least_of ms)

-- no mark is above FOREVER
abbrev pub AreTimes : List ℕ → Type 0
AreTimes [] = Unit {0}
AreTimes (m ∷ ms) = (m ≤ FOREVER) × AreTimes ms

-- the same bags on the same ports
abbrev pub SameTables : Tables → Tables → Type 0
SameTables [] [] = Unit {0}
SameTables [] (u ∷ us) = ⊥
SameTables (t ∷ ts) [] = ⊥
SameTables (t ∷ ts) (u ∷ us) = SameRows t u × SameTables ts us

-- of these rows a state may hold each one
pub record OnlyHolds (meaning : Meaning) (tables : Tables) (marks : List ℕ) (held : Tables) : Type 0 where
  pub each : (port : ℕ) (r : Row) → 0 < count_of r (table_at held port) → meaning.may_hold tables marks port r ≡ true
