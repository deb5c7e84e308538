use Rattle.std.proofs.Common.{◌≡◌, List, length, ap, sym, ◌∙◌, arith, rules, get_or}
use Rattle.cedr_plan.specs.declared.plan.PlanNode.{PlanNode}
use Rattle.cedr_net.proofs.PlaceLemmas.{port_here}
use Rattle.message_cases.proofs.network.tell_forgotten.Goals as goal

pub forgotten-requires : goal.forgotten-requires
forgotten-requires g c =
    let h = c.requires in
    let fed = c.args.fed.now in
    let nodes = fed.plan.nodes.items in
    let place = c.in-Some.place in
    let slice = c.as_slice-nodes.ensures.value in
    let n = c.index-nodes-place in
    let here : get_or nodes place n.result ≡ n.result = ap (λ (ns : List PlanNode). get_or ns place n.result) (sym slice) ∙ sym n.is in
    let wide : c.len.result ≡ length n.result.inputs.items = search rules in
    port_here nodes fed.net h.ports h.given h.stands place c.args.port n.result (omega (arith, ap (λ (ns : List PlanNode). length ns) slice, c.in-Some.ensures)) here
    (omega (arith, c.if-port-len.false, wide))
