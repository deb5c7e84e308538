use Rattle.std.proofs.Common.{◌≡◌, ◌++◌}
use Rattle.std.specs.List.{flat_map}
use Rattle.cedr_table.specs.Counted.{spread}
use Rattle.cedr_expr.specs.Tests.{passes}
use Rattle.pat_state.specs.Steps.{next_passing}
use Rattle.pat_state.proofs.pairs.push_seconds.Given as goal

abbrev pub invariant-loop-row : goal.invariant-loop-row
invariant-loop-row l = l.rows.items ++ flat_map (next_passing (passes l.tests) l.so_far) (spread l.row-iterator) ≡ l.initial.rows.items ++ flat_map (next_passing (passes l.tests) l.so_far) (spread l.fn.some)
