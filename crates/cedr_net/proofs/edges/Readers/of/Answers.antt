use Rattle.std.proofs.Common.{◌≡◌, ◌<◌, ◌++◌, ℕ, List, [], length, get_or, take, ap, sym, ◌∙◌, rules, arith}
use Rattle.std.proofs.lemmas.List.{length-map}
use Rattle.cedr_plan.specs.declared.plan.PlanNode.{PlanNode}
use Rattle.cedr_net.specs.Edges.{readers_on, readers_from}
use Rattle.cedr_net.specs.Flows.{reads_of}
use Rattle.cedr_net.proofs.EdgeLemmas.{readers_more}
use Rattle.cedr_net.proofs.FlowLemmas.{read_at}
use Rattle.cedr_net.proofs.edges.Readers.of.Goals as goal

pub loop-at-preserved : goal.loop-at-preserved
loop-at-preserved c =
    let nodes = c.args.nodes.now in
    let at = c.loop-at.at in
    let place = c.args.place in
    let n = c.index-nodes-at.result in
    let within : at < length nodes = search rules in
    let inputs : c.as_slice.result.now ≡ get_or (reads_of nodes) at [] = c.as_slice.ensures.value ∙ sym (read_at nodes at n within) in
    c.in_ok-push_readers.ensures
    ∙ (ap (λ (rs : List (ℕ × ℕ)). rs ++ readers_on place at 0 c.as_slice.result.now) c.loop-at.invariant
    ∙ (ap (λ (is : List ℕ). readers_from place 0 (take at (reads_of nodes)) ++ readers_on place at 0 is) inputs
    ∙ sym (readers_more place at (reads_of nodes) (omega (arith, length-map nodes (λ (m : PlanNode). m.inputs.items))))))
