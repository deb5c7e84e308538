use Rattle.std.proofs.Common.{◌≡◌, ◌<◌, List, length}
use Rattle.node_laws.specs.Lists.{Lists}
use Rattle.cedr_plan.specs.declared.plan.PlanNode.{PlanNode}
use Rattle.plan_runs.specs.Runs.{lists_at}
use Rattle.cedr_net.specs.Flows.{waiting_count}
use Rattle.cedr_net.specs.Networks.{FlowStands, IsOnTheWay}
use Rattle.cedr_net.proofs.flow.Flow.drain.Given as goal

abbrev pub invariant-loop : goal.invariant-loop
invariant-loop l = (l.self.answer.keeps ≡ l.initial.self.answer.keeps) × ((nodes : List PlanNode) (ports : List Lists) (given : Lists) → FlowStands nodes l.initial.self ports given → l.place < length nodes → IsOnTheWay nodes l.initial.self l.self ports given l.place)

abbrev pub decreases-loop : goal.decreases-loop
decreases-loop l = waiting_count (lists_at l.self.waiting.items l.place)
