-- Of tables that have rows only, so have the parts in which no matching row lives.
use Rattle.std.proofs.Common.{ℕ, ◌<◌, List, arith}
use Rattle.cedr_base.specs.declared.row.Row.{Row}
use Rattle.cedr_base.specs.Rows.{IsRow, AreRows, count_of}
use Rattle.cedr_table.specs.Operators.{Tables, HaveRows, table_at}
use Rattle.cedr_table.proofs.RowsLemmas.{images_are}
use Rattle.cedr_expr.specs.declared.test.Test.{Test}
use Rattle.op_except.specs.Parts.{parts, matching, excepted, all_excepted}
use Rattle.op_except.proofs.PartLemmas.{parts_within}

part_is : (a x : Row) (others : List Row) → IsRow a → 0 < count_of x (parts a others) → IsRow x
part_is a x others row there =
    let h = parts_within a x others there in
    let life = h.lives in
    let by = h.by in
    let begins = row.begins in
    let ends = row.ends in
    record { lives = life; begins = omega arith; ends = omega arith }

-- each part of a row is one
pub except_rows : (tests : List Test) (tables : Tables) → HaveRows tables → AreRows (all_excepted tests tables)
except_rows tests tables have =
    images_are (excepted tests (table_at tables 1)) (table_at tables 0) (λ a row. record { each = λ x there. part_is a x (matching tests a (table_at tables 1)) row there }) (have.each 0)
