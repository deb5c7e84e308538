use Rattle.std.proofs.Common.{◌≡◌, ◌++◌, take, length}
use Rattle.op_except.proofs.except.push_changes.Given as goal

abbrev pub invariant-loop-change : goal.invariant-loop-change
invariant-loop-change l = (l.out.items ≡ l.initial.out.items ++ l.yielded) × (take (length l.initial.out.items) l.out.items ≡ l.initial.out.items)
