use Rattle.message_cases.specs.FedNodes.{NodeWasFed}
use Rattle.message_cases.proofs.node.play.Given as goal

abbrev pub invariant-loop-line : goal.invariant-loop-line
invariant-loop-line g l = NodeWasFed l.fed.node l.fed.came.items
