use Rattle.std.proofs.Common.{◌≡◌, ◌∙◌, List, length, ap, sym, arith, get_or}
use Rattle.cedr_plan.specs.declared.plan.PlanNode.{PlanNode}
use Rattle.cedr_net.proofs.NewLemmas.{can_be_made}
use Rattle.message_cases.proofs.node.play.Goals as goal

pub start-requires-clause-ready : goal.start-requires-clause-ready
start-requires-clause-ready g c =
    let nodes = c.args.plan.now.nodes.items in
    let place = c.in-Some.place in
    let slice = c.as_slice-nodes.ensures.value in
    let n = c.index-nodes-place in
    let here : get_or nodes place n.result ≡ n.result = ap (λ (ns : List PlanNode). get_or ns place n.result) (sym slice) ∙ sym n.is in
    let made = can_be_made nodes place n.result c.requires.nodes (omega (arith, ap (λ (ns : List PlanNode). length ns) slice, c.in-Some.ensures)) here in
    made.0 (sym c.is_source.ensures ∙ c.if-is_source.false)

pub start-requires-clause-level : goal.start-requires-clause-level
start-requires-clause-level g c =
    let nodes = c.args.plan.now.nodes.items in
    let place = c.in-Some.place in
    let slice = c.as_slice-nodes.ensures.value in
    let n = c.index-nodes-place in
    let here : get_or nodes place n.result ≡ n.result = ap (λ (ns : List PlanNode). get_or ns place n.result) (sym slice) ∙ sym n.is in
    let made = can_be_made nodes place n.result c.requires.nodes (omega (arith, ap (λ (ns : List PlanNode). length ns) slice, c.in-Some.ensures)) here in
    made.1
