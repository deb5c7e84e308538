use Rattle.std.proofs.Common.{◌≡◌, List, ◌++◌}
use Rattle.cedr_base.specs.declared.row.Row.{Row}
use Rattle.cedr_base.specs.Rows.{AreRows}
use Rattle.filed_rows.specs.Filed.{all_under}
use Rattle.op_except.specs.Around.{Gathers}
use Rattle.op_except.proofs.around.gather_all.Given as goal

abbrev pub invariant-loop-rows : goal.invariant-loop-rows
invariant-loop-rows l = record {
  done : List Row;
  all : done ++ all_under l.rows-iterator ≡ all_under l.fn.right.entries;
  gathers : AreRows (all_under l.fn.right.entries) → Gathers l.tests done l.part l.initial.busy l.busy;
}
