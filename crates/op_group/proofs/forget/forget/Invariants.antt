use Rattle.std.proofs.Common.{◌≡◌, List, length}
use Rattle.cedr_base.specs.declared.row.Row.{Row}
use Rattle.op_group.specs.Groups.{Grouping}
use Rattle.op_group.specs.State.{KeepsGroups, KeepsFields}
use Rattle.op_group.proofs.forget.forget.Given as goal

abbrev pub invariant-loop-point : goal.invariant-loop-point
invariant-loop-point l = record {
  keeps : (g : Grouping) (rows : List Row) → KeepsGroups g l.initial.groups.entries l.initial.points.all.keys l.initial.points.due.keys rows l.mark → KeepsGroups g l.groups.entries l.points.all.keys l.points.due.keys rows l.mark;
  fields : (g : Grouping) (rows : List Row) → KeepsFields g l.fn.bags l.initial.points.due.keys rows l.mark → KeepsFields g l.bags l.points.due.keys rows l.mark × (l.bags.passed ≡ l.mark);
}

abbrev pub decreases-loop-point : goal.decreases-loop-point
decreases-loop-point l = length l.points.due.keys
