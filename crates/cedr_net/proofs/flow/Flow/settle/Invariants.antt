use Rattle.std.proofs.Common.{◌≡◌, List}
use Rattle.node_laws.specs.Lists.{Lists}
use Rattle.cedr_plan.specs.declared.plan.PlanNode.{PlanNode}
use Rattle.cedr_net.specs.Networks.{FlowStands, IsSettledUpTo}
use Rattle.cedr_net.proofs.flow.Flow.settle.Given as goal

abbrev pub invariant-loop-place : goal.invariant-loop-place
invariant-loop-place l = (l.self.answer.keeps ≡ l.initial.self.answer.keeps) × ((nodes : List PlanNode) (ports : List Lists) (given : Lists) → FlowStands nodes l.initial.self ports given → IsSettledUpTo nodes l.self ports given l.place)
