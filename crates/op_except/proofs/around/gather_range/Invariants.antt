use Rattle.std.proofs.Common.{◌≡◌, List, ◌++◌}
use Rattle.cedr_base.specs.declared.row.Row.{Row}
use Rattle.cedr_base.specs.Rows.{AreRows}
use Rattle.cedr_table.specs.Counted.{spread, AreThere}
use Rattle.op_except.specs.Around.{Gathers}
use Rattle.op_except.proofs.around.gather_range.Given as goal

abbrev pub invariant-loop-other : goal.invariant-loop-other
invariant-loop-other l = record {
  done : List Row;
  all : done ++ spread l.other-iterator ≡ spread l.fn.others;
  there : AreThere l.other-iterator;
  gathers : AreRows (spread l.fn.others) → Gathers l.tests done l.part l.initial.busy l.busy;
}
