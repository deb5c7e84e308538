use Rattle.std.proofs.Common.{◌<◌, ◌≤◌, length}
use Rattle.cedr_base.specs.declared.row.Row.{Row}
use Rattle.cedr_base.specs.Rows.{count_of}
use Rattle.cedr_table.specs.Counted.{spread, AreThere}
use Rattle.op_except.proofs.around.last_end.Given as goal

abbrev pub invariant-loop-other : goal.invariant-loop-other
invariant-loop-other l = record {
  found : (n : Row) → 0 < count_of n (spread l.ended) → (0 < count_of n l.rows) × (n.end ≤ l.time);
  there : AreThere l.ended;
}

abbrev pub decreases-loop-other : goal.decreases-loop-other
decreases-loop-other l = length l.ended
