use Rattle.std.proofs.Common.{◌≡◌, ◌<◌, ◌++◌, List, ℕ, length, take, ap, sym, ◌∙◌, rules, arith, append_assoc}
use Rattle.node_laws.specs.declared.forgotten.Forgotten.{Forgotten}
use Rattle.node_laws.specs.Kept.{forgot}
use Rattle.node_laws.specs.Lists.{list_at}
use Rattle.cedr_plan.specs.declared.plan.PlanNode.{PlanNode}
use Rattle.cedr_net.proofs.PlaceLemmas.{port_here}
use Rattle.cedr_net.proofs.PortLemmas.{port_width}
use Rattle.plan_runs.specs.Runs.{lists_at}
use Rattle.plan_runs.specs.Without.{forgot_on}
use Rattle.plan_answer.specs.Answers.{port_text, ports_text}
use Rattle.plan_answer.proofs.TextLemmas.{node_more, node_there, all_ports}
use Rattle.plan_serial.proofs.answer.write_node.Goals as goal

pub forgotten-requires : goal.forgotten-requires
forgotten-requires c =
    let r = c.requires.net in
    let m = c.index-nodes-place in
    let in_port : c.loop-port.port < length m.result.inputs.items = search rules in
    port_here c.args.nodes.now c.args.net.now r.0 r.1 r.2 c.args.place c.loop-port.port m.result c.requires.place (sym m.is) in_port

pub loop-port-preserved : goal.loop-port-preserved
loop-port-preserved c = λ ports given h before after n whole here.
    let nodes = c.args.nodes.now in
    let place = c.args.place in
    let port = c.loop-port.port in
    let m = c.index-nodes-place in
    let first = c.args.out.now.items in
    let lists = lists_at ports place in
    let same : m.result ≡ n = m.is ∙ node_there nodes before after n m.result place whole here in
    let in_port : port < length m.result.inputs.items = search rules in
    let wide : length (lists_at ports place) ≡ length n.inputs.items = ap (λ (k : ℕ). length (lists_at ports k)) (sym here) ∙ port_width nodes c.args.net.now.flow ports given h.stands before after n whole in
    let within : port < length (lists_at ports place) = omega (arith, wide, in_port, ap (λ (x : PlanNode). length x.inputs.items) same) in
    let done = ports_text n.name 0 (take port (forgot_on n lists)) in
    c.in_ok-write_port.ensures
    ∙ (ap (λ (x : PlanNode). c.loop-port.out.items ++ port_text x.name port c.forgotten.result.now) same
    ∙ (ap (λ (fs : List Forgotten). c.loop-port.out.items ++ port_text n.name port fs) (c.forgotten.ensures nodes ports given h before after n whole here)
    ∙ (ap (λ (t : List ℕ). t ++ port_text n.name port (forgot n.level.memory (list_at (lists_at ports place) port))) (c.loop-port.invariant ports given h before after n whole here)
    ∙ (append_assoc first done (port_text n.name port (forgot n.level.memory (list_at lists port)))
    ∙ ap (λ (t : List ℕ). first ++ t) (sym (node_more n lists port within))))))

pub returns : goal.returns
returns c = λ ports given h before after n whole here.
    let nodes = c.args.nodes.now in
    let place = c.args.place in
    let m = c.index-nodes-place in
    let first = c.args.out.now.items in
    let same : m.result ≡ n = m.is ∙ node_there nodes before after n m.result place whole here in
    let wide : length (lists_at ports place) ≡ length n.inputs.items = ap (λ (k : ℕ). length (lists_at ports k)) (sym here) ∙ port_width nodes c.args.net.now.flow ports given h.stands before after n whole in
    let end : c.loop-port.port ≡ length m.result.inputs.items = search rules in
    c.loop-port.invariant ports given h before after n whole here
    ∙ ap (λ (t : List ℕ). first ++ t) (all_ports n (lists_at ports place) c.loop-port.port (omega (arith, end, wide, ap (λ (x : PlanNode). length x.inputs.items) same)))
