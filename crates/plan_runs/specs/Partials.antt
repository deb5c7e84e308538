-- The first messages of whole lists.
use Rattle.std.specs.Prelude.{ℕ, ◌≡◌, ◌<◌, List, false}
use Rattle.cedr_base.specs.declared.change.Message.{Message}
use Rattle.cedr_base.specs.declared.row.Row.{Row}
use Rattle.cedr_base.specs.Messages.{IsLegal, IsTableOf}
use Rattle.cedr_table.specs.Operators.{Tables, table_at}
use Rattle.node_laws.specs.Lists.{Lists, list_at}
use Rattle.node_laws.specs.Lawful.{has_broken}
use Rattle.plan_runs.specs.Runs.{IsPrefix}

-- a list has the first messages of a legal one that isn't broken, which has this table
pub record BeginsTable (ms : List Message) (rows : List Row) : Type 0 where
  pub whole : List Message
  pub first : IsPrefix ms whole
  pub legal : IsLegal whole
  pub unbroken : has_broken whole ≡ false
  pub table : IsTableOf whole rows

-- each of so many lists has, with its table
abbrev pub AllBeginTables : ℕ → Lists → Tables → Type 0
AllBeginTables count lists tables = (k : ℕ) → k < count → BeginsTable (list_at lists k) (table_at tables k)
