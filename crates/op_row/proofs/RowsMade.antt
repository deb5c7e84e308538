-- Of tables that have rows only, so has what these operators make of them.
use Rattle.std.proofs.Common.{suc, [], ◌∷◌, ℕ, List}
use Rattle.std.specs.List.{flat_map}
use Rattle.cedr_base.specs.Rows.{AreRows}
use Rattle.cedr_expr.specs.declared.test.Test.{Test}
use Rattle.cedr_expr.specs.Tests.{passes}
use Rattle.cedr_expr.specs.Columns.{kept_columns}
use Rattle.cedr_table.specs.Operators.{Tables, HaveRows, table_at}
use Rattle.cedr_table.proofs.RowsLemmas.{none_are, one_are, more_are, both_are, images_are}
use Rattle.op_row.specs.Rows.{selected, projected}
use Rattle.op_row.specs.Unions.{united}

-- a row is selected or not
pub select_rows : (tests : List Test) (tables : Tables) → HaveRows tables → AreRows (flat_map (selected tests) (table_at tables 0))
select_rows tests tables have = images_are (selected tests) (table_at tables 0) (λ x row. one_are (passes tests x.payload []) x (λ passing. row)) (have.each 0)

-- a row has a projection
pub project_rows : (keep : List ℕ) (tables : Tables) → HaveRows tables → AreRows (flat_map (projected keep) (table_at tables 0))
project_rows keep tables have =
    images_are (projected keep) (table_at tables 0)
    (λ x row. more_are (record x { payload = kept_columns keep x.payload }) [] (record { lives = row.lives; begins = row.begins; ends = row.ends }) none_are) (have.each 0)

-- the rows of each port are rows
pub union_rows : (tables : Tables) → HaveRows tables → AreRows (united tables)
union_rows [] have = none_are
union_rows (t ∷ ts) have = both_are t (united ts) (have.each 0) (union_rows ts (record { each = λ port. have.each (suc port) }))
