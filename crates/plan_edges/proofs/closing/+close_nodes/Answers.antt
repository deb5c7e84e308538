use Rattle.std.proofs.Common.{rules, ◌≡◌, ◌<◌, ◌≤◌, ◌+◌, ◌++◌, ◌∷◌, [], ℕ, List, length, map, sym, subst, arith, suc, length-append}
use Rattle.std.proofs.lemmas.List.{nil_from_length, length-map}
use Rattle.std.specs.Vec.{vec_capacity}
use Rattle.cedr_edge.specs.Ends.{InEnd}
use Rattle.cedr_plan.specs.declared.plan.PlanNode.{PlanNode}
use Rattle.plan_edges.specs.Wires.{AreLeft, AreOver, AreWithin, SomeClosed, all_ends, froms, node_ports}
use Rattle.plan_edges.proofs.CloseLemmas.{all_front, all_back, closed_count, none_closed, more_closed}
use Rattle.plan_edges.proofs.closing.+close_nodes.Goals as goal

pub returns-in_default : goal.returns-in_default
returns-in_default t c =
    let none : c.args.nodes.now ≡ [] = nil_from_length c.args.nodes.now (search rules) in
    let ends : c.args.takers.items ≡ [] = nil_from_length c.args.takers.items (search (rules, length-map)) in
    subst (λ (z : List PlanNode × List (List InEnd)). SomeClosed (froms z.0) (all_ends z.1) c.args.putters.now.items c.args.putters.now.items c.args.records.now.items c.args.records.now.items) (λ i. (sym none i, sym ends i)) (none_closed c.args.putters.now.items c.args.records.now.items)

pub close_ports-requires-clause-within : goal.close_ports-requires-clause-within
close_ports-requires-clause-within t c =
    let ns : c.args.nodes.now ≡ c.in-Some.node.now ∷ c.in-Some.others.now = search rules in
    let all = subst (λ (ks : List PlanNode). AreWithin (length c.args.putters.now.items) (froms ks)) ns c.requires.within in
    subst (AreWithin (length c.args.putters.now.items)) (sym c.as_slice.ensures.value) (all_front (λ (p : ℕ). p < length c.args.putters.now.items) c.in-Some.node.now.inputs.items (froms c.in-Some.others.now) all)

pub close_ports-requires-clause-left : goal.close_ports-requires-clause-left
close_ports-requires-clause-left t c =
    let ns : c.args.nodes.now ≡ c.in-Some.node.now ∷ c.in-Some.others.now = search rules in
    let ts : c.args.takers.items ≡ c.in-Some-take_node.ends ∷ c.take_node.new.takers.items = search rules in
    let left = subst (λ (z : List PlanNode × List (List InEnd)). AreLeft (froms z.0) (all_ends z.1) c.args.putters.now.items) (λ i. (ns i, ts i)) c.requires.left in
    (froms c.in-Some.others.now, all_ends c.take_node.new.takers.items, subst (λ (xs : List ℕ). AreLeft (xs ++ froms c.in-Some.others.now) (c.in-Some-take_node.ends ++ all_ends c.take_node.new.takers.items) c.args.putters.now.items) (sym c.as_slice.ensures.value) left)

pub close_ports-requires-clause-over : goal.close_ports-requires-clause-over
close_ports-requires-clause-over t c =
    let ts : c.args.takers.items ≡ c.in-Some-take_node.ends ∷ c.take_node.new.takers.items = search rules in
    subst AreOver ts c.requires.over 0 c.in-Some-take_node.ends (omega arith)

pub close_nodes-requires : goal.close_nodes-requires
close_nodes-requires t c =
    let n = c.in-Some.node.now in
    let others = c.in-Some.others.now in
    let ends = c.in-Some-take_node.ends in
    let rest = c.take_node.new.takers.items in
    let ns : c.args.nodes.now ≡ n ∷ others = search rules in
    let ts : c.args.takers.items ≡ ends ∷ rest = search rules in
    let ports : map length (ends ∷ rest) ≡ map node_ports (n ∷ others) = subst (λ (z : List PlanNode × List (List InEnd)). map length z.1 ≡ map node_ports z.0) (λ i. (ns i, ts i)) c.requires.ports in
    let left = subst (λ (z : List PlanNode × List (List InEnd)). AreLeft (froms z.0) (all_ends z.1) c.args.putters.now.items) (λ i. (ns i, ts i)) c.requires.left in
    let at = subst (λ (xs : List ℕ). AreLeft (xs ++ froms others) (ends ++ all_ends rest) c.args.putters.now.items) (sym c.as_slice.ensures.value) left in
    let all = subst (λ (ks : List PlanNode). AreWithin (length c.args.putters.now.items) (froms ks)) ns c.requires.within in
    let within = all_back (λ (p : ℕ). p < length c.args.putters.now.items) n.inputs.items (froms others) all in
    let over = subst AreOver ts c.requires.over in
    let closed = c.close_ports.ensures.closed in
    let more = closed_count _ ends _ _ _ _ closed in
    let count : length ends ≡ node_ports n = cc ports in
    let room : length c.args.records.now.items + length (n.inputs.items ++ froms others) ≤ vec_capacity c.args.records.now = subst (λ (ks : List PlanNode). length c.args.records.now.items + length (froms ks) ≤ vec_capacity c.args.records.now) ns c.requires.room in (
      search rules,
      (
        cc ports,
        (
          subst (λ (k : ℕ). AreWithin k (froms others)) (sym closed.count) within,
          (
            c.close_ports.ensures.left (froms others) (all_ends rest) at,
            ((λ k d less. over (suc k) d (omega (arith, less))), omega (arith, room, more, count, c.close_ports.ensures.room, length-append n.inputs.items (froms others))),
          ),
        ),
      ),
    )

pub returns : goal.returns
returns t c =
    let ns : c.args.nodes.now ≡ c.in-Some.node.now ∷ c.in-Some.others.now = search rules in
    let ts : c.args.takers.items ≡ c.in-Some-take_node.ends ∷ c.take_node.new.takers.items = search rules in
    let first = subst (λ (xs : List ℕ). SomeClosed xs c.in-Some-take_node.ends c.args.putters.now.items c.close_ports.new.putters.items c.args.records.now.items c.close_ports.new.records.items) c.as_slice.ensures.value c.close_ports.ensures.closed in
    let all = more_closed c.in-Some.node.now.inputs.items (froms c.in-Some.others.now) c.in-Some-take_node.ends (all_ends c.take_node.new.takers.items) _ _ _ _ _ _ first c.close_nodes.ensures in
    subst (λ (z : List PlanNode × List (List InEnd)). SomeClosed (froms z.0) (all_ends z.1) c.args.putters.now.items c.close_nodes.new.putters.items c.args.records.now.items c.close_nodes.new.records.items) (λ i. (sym ns i, sym ts i)) all
