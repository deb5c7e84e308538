use Rattle.std.proofs.Common.{◌≡◌, ◌++◌}
use Rattle.std.specs.Prelude.{None, replicate}
use Rattle.op_group.proofs.segment.put_none.Given as goal

abbrev pub invariant-loop : goal.invariant-loop
invariant-loop l = l.extremes.items ≡ l.initial.extremes.items ++ replicate l.counter None
