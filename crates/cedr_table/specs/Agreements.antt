-- What an operator makes of tables that agree up to the marks of its ports.
use Rattle.std.specs.Prelude.{ℕ, ◌≡◌, List, length}
use Rattle.change_laws.specs.Agreeing.{AgreeUpTo}
use Rattle.cedr_table.specs.Operators.{Tables, Meaning, table_at, mark_at, HaveRows}

-- there are two tables for each mark, and on each port they agree up to the port's mark
pub record AgreeOnPorts (marks : List ℕ) (tables others : Tables) : Type 0 where
  pub tables_are : length tables ≡ length marks
  pub others_are : length others ≡ length marks
  pub each : (port : ℕ) → AgreeUpTo (mark_at marks port) (table_at tables port) (table_at others port)

-- Where on each port two tables agree up to the port's mark, the results agree up to the bound.
-- agree: the results agree.
-- same_bound: either side's tables have that bound.
pub record KeepsAgreement (meaning : Meaning) : Type 0 where
  pub agree : (tables others : Tables) (marks : List ℕ) → HaveRows tables → HaveRows others → AgreeOnPorts marks tables others → AgreeUpTo (meaning.bound tables marks) (meaning.result tables) (meaning.result others)
  pub same_bound : (tables others : Tables) (marks : List ℕ) → HaveRows tables → HaveRows others → AgreeOnPorts marks tables others → meaning.bound tables marks ≡ meaning.bound others marks
