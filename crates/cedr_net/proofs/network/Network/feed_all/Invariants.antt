use Rattle.std.proofs.Common.{◌≡◌, ◌<◌, ◌++◌, List, length}
use Rattle.cedr_base.specs.Messages.{IsLegal}
use Rattle.node_laws.specs.Lists.{Lists, list_at, with_more}
use Rattle.cedr_plan.specs.declared.plan.PlanNode.{PlanNode}
use Rattle.cedr_net.specs.Flows.{IsSourceAt}
use Rattle.cedr_net.specs.Networks.{NetStands}
use Rattle.cedr_net.proofs.network.Network.feed_all.Given as goal

abbrev pub invariant-loop-message : goal.invariant-loop-message
invariant-loop-message l = record {
  stands : (nodes : List PlanNode) (ports : List Lists) (given : Lists) → NetStands nodes l.initial.self ports given → l.fn.node < length nodes → IsSourceAt nodes l.fn.node → IsLegal (list_at given l.fn.node ++ l.fn.messages.items)
      → NetStands nodes l.self ports (with_more given l.fn.node l.yielded);
  keeps : l.self.flow.answer.keeps ≡ l.initial.self.flow.answer.keeps;
}
