use Rattle.std.proofs.Common.{◌≡◌, ◌++◌, length, not}
use Rattle.std.specs.List.{filter}
use Rattle.cedr_base.specs.Rows.{in_order}
use Rattle.cedr_table.specs.Counted.{ends_after, SameAmong}
use Rattle.cedr_net.proofs.answer.take_ended.Given as goal

abbrev pub invariant-loop-row : goal.invariant-loop-row
invariant-loop-row l =
    SameAmong (ends_after l.time) l.table l.initial.table
    × (l.rows.items ++ in_order (filter (λ r. not (ends_after l.time r)) l.table) ≡ l.initial.rows.items ++ in_order (filter (λ r. not (ends_after l.time r)) l.initial.table))

abbrev pub decreases-loop-row : goal.decreases-loop-row
decreases-loop-row l = length l.table
