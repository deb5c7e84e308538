-- Of tables that have rows only, so have the rows that no other row blocks.
use Rattle.std.proofs.Common.{ℕ, List, [], Bool, true, false, cond, arith}
use Rattle.cedr_base.specs.declared.row.Row.{Row}
use Rattle.cedr_base.specs.Rows.{AreRows}
use Rattle.change_laws.specs.Times.{later}
use Rattle.cedr_expr.specs.declared.test.Test.{Test}
use Rattle.cedr_table.specs.Operators.{Tables, HaveRows, table_at}
use Rattle.cedr_table.proofs.RowsLemmas.{none_are, made_are, images_are}
use Rattle.pat_unless.specs.Blocking.{is_blocked_by, waited, unblocked, all_unblocked}

one_waited : (scope hold : ℕ) (a : Row) (blocked : Bool) → AreRows (cond blocked [] (waited scope hold a))
one_waited scope hold a true = none_are
one_waited scope hold a false = made_are (record { begin = later a.begin scope; end = later (later a.begin scope) hold }) a.payload (omega arith)

-- each row that no other blocks makes a row or none
pub unless_rows : (scope hold : ℕ) (tests : List Test) (tables : Tables) → HaveRows tables → AreRows (all_unblocked scope hold tests tables)
unless_rows scope hold tests tables have =
    images_are (unblocked scope hold tests (table_at tables 1)) (table_at tables 0) (λ a row. one_waited scope hold a (is_blocked_by scope tests (table_at tables 1) a)) (have.each 0)
