use Rattle.std.proofs.Common.{◌≡◌, ℕ, List, ◌++◌, take, length}
use Rattle.std.specs.List.{filter}
use Rattle.cedr_base.specs.declared.row.Row.{Row}
use Rattle.cedr_base.specs.Changes.{sync_of, changed_row}
use Rattle.cedr_table.specs.Counted.{spread}
use Rattle.filed_rows.specs.Filed.{right_partners}
use Rattle.filed_rows.specs.Spans.{lives_within}
use Rattle.op_except.specs.Turns.{CanTurn, HasTurned}
use Rattle.op_except.proofs.turns.turn_range.Given as goal

abbrev pub invariant-loop-row : goal.invariant-loop-row
invariant-loop-row l = record {
  done : List Row;
  all : done ++ spread l.row-iterator ≡ spread l.fn.rows;
  turned : (t : ℕ) (others : List Row) → CanTurn l.tests t l.change (right_partners l.right.entries l.tag) others (filter (lives_within (sync_of l.change) (changed_row l.change).end) done)
      → HasTurned l.tests t l.change others (filter (lives_within (sync_of l.change) (changed_row l.change).end) done) l.initial.out.items l.out.items;
  kept : take (length l.initial.out.items) l.out.items ≡ l.initial.out.items;
}
