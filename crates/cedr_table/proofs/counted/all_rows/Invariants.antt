use Rattle.std.proofs.Common.{◌≡◌, ◌++◌}
use Rattle.cedr_table.specs.Counted.{spread}
use Rattle.cedr_table.proofs.counted.all_rows.Given as goal

abbrev pub invariant-loop-row : goal.invariant-loop-row
invariant-loop-row l = l.rows.items ++ spread l.row-iterator ≡ spread l.fn.map.entries
