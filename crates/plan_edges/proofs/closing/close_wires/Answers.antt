use Rattle.std.proofs.Common.{List, length, sym, subst}
use Rattle.cedr_plan.specs.declared.plan.PlanNode.{PlanNode}
use Rattle.plan_edges.specs.Wires.{AreWithin, froms}
use Rattle.plan_edges.proofs.WireLemmas.{within_plan}
use Rattle.plan_edges.proofs.closing.close_wires.Goals as goal

pub close_nodes-requires-clause-within : goal.close_nodes-requires-clause-within
close_nodes-requires-clause-within c =
    let nodes = c.args.plan.now.nodes.items in
    subst (λ (ns : List PlanNode). AreWithin (length c.args.putters.items) (froms ns)) (sym c.as_slice.ensures.value) (within_plan nodes (length c.args.putters.items) c.requires.plan.nodes (sym c.requires.wired.nodes_are))
