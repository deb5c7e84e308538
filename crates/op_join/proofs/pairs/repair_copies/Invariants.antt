use Rattle.std.proofs.Common.{◌≡◌, ◌++◌, replicate}
use Rattle.cedr_expr.specs.Tests.{passes}
use Rattle.op_join.specs.Pairs.{all_changes}
use Rattle.op_join.proofs.pairs.repair_copies.Given as goal

abbrev pub invariant-loop : goal.invariant-loop
invariant-loop l = l.out.items ≡ l.initial.out.items ++ all_changes (passes l.tests) l.side l.change (replicate l.counter l.other)
