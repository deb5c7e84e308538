use Rattle.std.proofs.Common.{rules, ◌≡◌, ◌∷◌, ◌++◌, [], ◌∙◌, ℕ, List, length, take, sym, ap, subst}
use Rattle.std.proofs.lemmas.List.{take_more}
use Rattle.cedr_edge.specs.Ends.{InEnd}
use Rattle.cedr_plan.specs.declared.plan.PlanNode.{PlanNode}
use Rattle.plan_edges.specs.Wires.{PortsWired, NodesWired, AreWithin}
use Rattle.plan_edges.proofs.WireLemmas.{nodes_more, nodes_length, within_node}
use Rattle.plan_edges.proofs.making.wire_nodes.Goals as goal

pub wire_ports-requires-clause-within : goal.wire_ports-requires-clause-within
wire_ports-requires-clause-within c =
    let n = c.node-item.result in
    let within = within_node (length c.args.putters.now.items) c.args.nodes.now c.loop-node.node-index n (search rules) c.requires.within in
    let inputs = ap (λ (k : PlanNode). k.inputs.items) (sym c.node-item.is) ∙ sym c.as_slice.ensures.value in
    subst (λ (count : ℕ). AreWithin count c.as_slice.result.now) (sym c.loop-node.invariant.1) (subst (λ (xs : List ℕ). AreWithin (length c.args.putters.now.items) xs) inputs within)

pub loop-node-preserved : goal.loop-node-preserved
loop-node-preserved c =
    let n = c.node-item.result in
    let ends = c.in_ok-ends.ends in
    let first = c.args.putters.now.items in
    let after = c.wire_ports.new.putters.items in
    let more = take_more c.args.nodes.now c.loop-node.node-index n (search rules) ∙ ap (λ (k : PlanNode). take c.loop-node.node-index c.args.nodes.now ++ k ∷ []) (sym c.node-item.is) in
    let one = subst (λ (xs : List ℕ). PortsWired c.args.room xs ends c.loop-node.putters.items after) c.as_slice.ensures.value c.in_ok-ends.ensures.wired in
    let some = nodes_more c.args.room (take c.loop-node.node-index c.args.nodes.now) n c.loop-node.takers.items ends first c.loop-node.putters.items after c.loop-node.invariant.0 one in
    let takers : c.push.new.self.items ≡ c.loop-node.takers.items ++ ends ∷ [] = c.in_ok-push.ensures.items in
    let wired = subst (λ (z : List PlanNode × List (List InEnd)). NodesWired c.args.room z.0 z.1 first after) (λ i. (sym more i, sym takers i)) some in
    (wired, nodes_length c.args.room _ _ _ _ wired)
