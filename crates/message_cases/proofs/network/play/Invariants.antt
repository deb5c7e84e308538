use Rattle.message_cases.specs.FedNets.{NetWasFed}
use Rattle.message_cases.proofs.network.play.Given as goal

abbrev pub invariant-loop-line : goal.invariant-loop-line
invariant-loop-line g l = NetWasFed l.fed.plan.nodes.items l.fed.net l.fed.came.items
