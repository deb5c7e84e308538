use Rattle.std.proofs.Common.{take}
use Rattle.cedr_base.specs.Rows.{SameRows}
use Rattle.cedr_table.proofs.table.Table.copy.Given as goal

abbrev pub invariant-loop-row : goal.invariant-loop-row
invariant-loop-row l = SameRows l.copied (take l.row-index l.row-items)
