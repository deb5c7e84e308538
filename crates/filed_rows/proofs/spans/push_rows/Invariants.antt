use Rattle.std.proofs.Common.{◌≡◌, ◌++◌}
use Rattle.filed_rows.proofs.spans.push_rows.Given as goal

abbrev pub invariant-loop-row : goal.invariant-loop-row
invariant-loop-row l = l.rows.items ≡ l.initial.rows.items ++ l.yielded
