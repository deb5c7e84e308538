use Rattle.std.proofs.Common.{◌≡◌, replicate}
use Rattle.cedr_node.proofs.node.same_levels.Given as goal

abbrev pub invariant-loop : goal.invariant-loop
invariant-loop l = l.levels.items ≡ replicate l.counter l.level
