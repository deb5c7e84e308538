use Rattle.std.proofs.Common.{◌≡◌, ℕ, List, take, length, replicate}
use Rattle.cedr_base.specs.declared.row.Row.{Row}
use Rattle.filed_rows.specs.Filed.{right_partners}
use Rattle.op_except.specs.Turns.{CanTurn, HasTurned}
use Rattle.op_except.proofs.turns.turn_copies.Given as goal

abbrev pub invariant-loop : goal.invariant-loop
invariant-loop l = record {
  turned : (t : ℕ) (others : List Row) → CanTurn l.tests t l.change (right_partners l.right.entries l.tag) others (replicate l.counter l.row) → HasTurned l.tests t l.change others (replicate l.counter l.row) l.initial.out.items l.out.items;
  kept : take (length l.initial.out.items) l.out.items ≡ l.initial.out.items;
}
