use Rattle.std.proofs.Common.{◌≡◌, ◌++◌}
use Rattle.pat_atleast.proofs.append.append.Given as goal

abbrev pub invariant-loop-one : goal.invariant-loop-one
invariant-loop-one g l = l.to.items ≡ l.initial.to.items ++ l.yielded
