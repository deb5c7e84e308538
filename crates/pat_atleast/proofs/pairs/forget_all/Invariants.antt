use Rattle.std.proofs.Common.{◌≡◌, ℕ, ◌<◌, ◌≤◌, length}
use Rattle.std.specs.List.{filter, All}
use Rattle.cedr_base.specs.Rows.{SameRows}
use Rattle.cedr_table.specs.Operators.{table_at}
use Rattle.pat_state.specs.Starts.{scope_reaches}
use Rattle.pat_state.specs.Tied.{AreCrossed}
use Rattle.pat_atleast.specs.Crossings.{rows_by_port}
use Rattle.pat_atleast.proofs.pairs.forget_all.Given as goal

abbrev pub invariant-loop-port : goal.invariant-loop-port
invariant-loop-port l = record {
  same_length : length l.ports.items ≡ length l.initial.ports.items;
  done : (k : ℕ) → k < l.port → SameRows (table_at (rows_by_port l.ports.items) k) (filter (scope_reaches l.scope l.time) (table_at (rows_by_port l.initial.ports.items) k));
  rest : (k : ℕ) → l.port ≤ k → table_at (rows_by_port l.ports.items) k ≡ table_at (rows_by_port l.initial.ports.items) k;
  tags : All (AreCrossed l.width l.tests) l.ports.items;
}
