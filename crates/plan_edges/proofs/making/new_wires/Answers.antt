use Rattle.std.proofs.Common.{◌≡◌, [], List, length, replicate, rules, sym, subst}
use Rattle.std.proofs.lemmas.List.{length-replicate}
use Rattle.cedr_edge.specs.Ends.{OutEnd}
use Rattle.cedr_plan.specs.declared.plan.PlanNode.{PlanNode}
use Rattle.plan_edges.specs.Wires.{NodesWired, AreWithin, froms}
use Rattle.plan_edges.proofs.WireLemmas.{within_plan, plan_wired, plan_new}
use Rattle.plan_edges.proofs.making.new_wires.Goals as goal

pub wire_nodes-requires-clause-within : goal.wire_nodes-requires-clause-within
wire_nodes-requires-clause-within c =
    let nodes = c.args.plan.now.nodes.items in
    let count : length nodes ≡ length c.in_ok-putters.putters.items = search (rules, length-replicate) in
    subst (λ (ns : List PlanNode). AreWithin (length c.in_ok-putters.putters.items) (froms ns)) (sym c.as_slice-nodes.ensures.value) (within_plan nodes (length c.in_ok-putters.putters.items) c.requires.nodes count)

pub returns-clause-wired : goal.returns-clause-wired
returns-clause-wired c =
    let nodes = c.args.plan.now.nodes.items in
    let first : c.in_ok-putters.putters.items ≡ replicate (length nodes) [] = search rules in
    let made : NodesWired c.args.plan.now.edge nodes c.in_ok-takers.takers.items c.in_ok-putters.putters.items c.wire_nodes.new.putters.items = search rules in
    plan_wired c.args.plan.now.edge nodes c.in_ok-takers.takers.items c.wire_nodes.new.putters.items c.requires.nodes (subst (λ (ps : List (List OutEnd)). NodesWired c.args.plan.now.edge nodes c.in_ok-takers.takers.items ps c.wire_nodes.new.putters.items) first made)

pub returns-clause-new : goal.returns-clause-new
returns-clause-new c =
    let nodes = c.args.plan.now.nodes.items in
    let first : c.in_ok-putters.putters.items ≡ replicate (length nodes) [] = search rules in
    let made : NodesWired c.args.plan.now.edge nodes c.in_ok-takers.takers.items c.in_ok-putters.putters.items c.wire_nodes.new.putters.items = search rules in
    plan_new c.args.plan.now.edge nodes c.in_ok-takers.takers.items c.wire_nodes.new.putters.items (subst (λ (ps : List (List OutEnd)). NodesWired c.args.plan.now.edge nodes c.in_ok-takers.takers.items ps c.wire_nodes.new.putters.items) first made)
