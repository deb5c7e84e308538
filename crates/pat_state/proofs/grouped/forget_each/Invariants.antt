use Rattle.std.proofs.Common.{None, ◌≡◌, ℕ, ◌<◌, ◌≤◌, length}
use Rattle.std.specs.List.{filter, All}
use Rattle.cedr_base.specs.Rows.{SameRows}
use Rattle.cedr_table.specs.Operators.{table_at}
use Rattle.pat_state.specs.Starts.{scope_reaches}
use Rattle.pat_state.specs.Groups.{all_seen, IsKeyed}
use Rattle.pat_state.proofs.grouped.forget_each.Given as goal

abbrev pub invariant-loop-port : goal.invariant-loop-port
invariant-loop-port l = record {
  same_length : length l.ports.items ≡ length l.initial.ports.items;
  done : (k : ℕ) → k < l.port → SameRows (table_at (all_seen None l.ports.items) k) (filter (scope_reaches l.scope l.time) (table_at (all_seen None l.initial.ports.items) k));
  rest : (k : ℕ) → l.port ≤ k → table_at (all_seen None l.ports.items) k ≡ table_at (all_seen None l.initial.ports.items) k;
  tags : All (IsKeyed l.width l.column) l.ports.items;
}
