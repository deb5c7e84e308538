use Rattle.std.proofs.Common.{replicate, []}
use Rattle.message_cases.specs.FedNodes.{AllCame}
use Rattle.message_cases.proofs.node.nothing_came.Given as goal

abbrev pub invariant-loop : goal.invariant-loop
invariant-loop l = AllCame l.came.items (replicate l.counter [])
