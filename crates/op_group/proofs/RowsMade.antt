-- Of tables that have rows only, so have their groups.
use Rattle.cedr_base.specs.Rows.{AreRows}
use Rattle.cedr_table.specs.Operators.{Tables, HaveRows, table_at}
use Rattle.op_group.specs.Groups.{Grouping, grouped}
use Rattle.op_group.specs.GroupLaws.{made_from_there}
use Rattle.op_group.proofs.GroupRepairs.{made_is_row}

-- each group of rows makes rows
pub group_rows : (g : Grouping) (tables : Tables) → HaveRows tables → AreRows (grouped g (table_at tables 0))
group_rows g tables have = record { each = λ r there. made_is_row g (table_at tables 0) r (have.each 0) (made_from_there g (table_at tables 0) r there) }
