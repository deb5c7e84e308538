use Rattle.std.proofs.Common.{◌≡◌, ◌++◌, length}
use Rattle.cedr_base.specs.Rows.{in_order}
use Rattle.cedr_net.proofs.answer.take_rest.Given as goal

abbrev pub invariant-loop-row : goal.invariant-loop-row
invariant-loop-row l = l.rows.items ++ in_order l.table ≡ l.initial.rows.items ++ in_order l.initial.table

abbrev pub decreases-loop-row : goal.decreases-loop-row
decreases-loop-row l = length l.table
