use Rattle.std.proofs.Common.{◌≡◌, [], replicate}
use Rattle.plan_edges.proofs.making.no_putters.Given as goal

abbrev pub invariant-loop : goal.invariant-loop
invariant-loop l = l.putters.items ≡ replicate l.counter []
