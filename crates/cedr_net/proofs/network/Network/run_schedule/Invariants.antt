use Rattle.std.proofs.Common.{◌≡◌, ◌<◌, List, ℕ, length, take}
use Rattle.std.specs.Prelude.{All}
use Rattle.node_laws.specs.Lists.{Lists}
use Rattle.cedr_plan.specs.declared.plan.PlanNode.{PlanNode}
use Rattle.cedr_net.specs.Networks.{NetStands, IsScheduled}
use Rattle.cedr_net.proofs.network.Network.run_schedule.Given as goal

abbrev pub invariant-loop-node : goal.invariant-loop-node
invariant-loop-node l = (l.self.flow.answer.keeps ≡ l.initial.self.flow.answer.keeps) × ((nodes : List PlanNode) (ports : List Lists) (given : Lists) → NetStands nodes l.initial.self ports given → All (λ (place : ℕ). place < length nodes) l.schedule → IsScheduled nodes l.initial.self l.self ports given (take l.node-index l.schedule))
