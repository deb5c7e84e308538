-- What an operator makes of tables that come to it row by row.
use Rattle.std.specs.Prelude.{ℕ, ◌≡◌, ◌≤◌, List, replicate}
use Rattle.cedr_base.specs.declared.row.Row.{Row}
use Rattle.cedr_base.specs.declared.time.TheConstants.{FOREVER}
use Rattle.cedr_base.specs.Rows.{AreRows, SameRows}
use Rattle.cedr_table.specs.Operators.{Tables, Meaning}

-- a state stands for tables of which nothing was promised yet, and a table has the rows of the result
pub record MadeOfTables (meaning : Meaning) (stands : Tables → List ℕ → Type 0) (tables : Tables) (made : List Row) : Type 0 where
  pub stands_for : stands tables (replicate meaning.ports 0)
  pub result : SameRows made (meaning.result tables)
  pub rows : AreRows made

-- a table and a mark are what an operator means
pub record IsAnswer (meaning : Meaning) (tables : Tables) (marks : List ℕ) (rows : List Row) (mark : ℕ) : Type 0 where
  pub result : SameRows rows (meaning.result tables)
  pub bound : mark ≡ meaning.bound tables marks
  pub time : mark ≤ FOREVER
  pub are_rows : AreRows rows
