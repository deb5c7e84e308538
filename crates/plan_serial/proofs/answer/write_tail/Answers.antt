use Rattle.std.proofs.Common.{◌≡◌, ◌<◌, ◌+◌, ◌++◌, ◌∷◌, List, ℕ, length, take, ap, sym, subst, ◌∙◌, rules, arith, append_assoc}
use Rattle.std.specs.Prelude.{codes}
use Rattle.std.proofs.lemmas.List.{take_all}
use Rattle.cedr_plan.specs.declared.plan.PlanNode.{PlanNode}
use Rattle.plan_runs.proofs.PlanNodes.{split}
use Rattle.plan_runs.specs.Runs.{lists_at}
use Rattle.plan_runs.specs.Without.{forgot_in, forgot_on}
use Rattle.cedr_base.specs.Bytes.{line_feed}
use Rattle.plan_answer.specs.Answers.{ports_text, nodes_text}
use Rattle.plan_answer.proofs.TextLemmas.{place_more}
use Rattle.plan_serial.proofs.answer.write_tail.Goals as goal

pub loop-place-preserved : goal.loop-place-preserved
loop-place-preserved c = λ ports given h.
    let nodes = c.args.nodes.now in
    let place = c.loop-place.place in
    let within : place < length nodes = search rules in
    let s = split nodes place within in
    let first = c.args.out.now.items in
    let listed = forgot_in nodes ports in
    let more : nodes_text (take (place + 1) nodes) (forgot_in nodes ports) ≡ nodes_text (take place nodes) (forgot_in nodes ports) ++ ports_text s.node.name 0 (forgot_on s.node (lists_at ports place)) =
    subst (λ (k : ℕ). nodes_text (take (k + 1) nodes) (forgot_in nodes ports) ≡ nodes_text (take k nodes) (forgot_in nodes ports) ++ ports_text s.node.name 0 (forgot_on s.node (lists_at ports k))) s.place (place_more nodes ports s.before s.after s.node s.whole) in
    let new = ports_text s.node.name 0 (forgot_on s.node (lists_at ports place)) in
    c.in_ok-write_node.ensures ports given h s.before s.after s.node s.whole s.place
    ∙ (ap (λ (t : List ℕ). t ++ ports_text s.node.name 0 (forgot_on s.node (lists_at ports place))) (c.loop-place.invariant ports given h)
    ∙ (append_assoc first (codes "--" ++ line_feed ∷ nodes_text (take place nodes) listed) new ∙ ap (λ (t : List ℕ). first ++ (codes "--" ++ line_feed ∷ t)) (sym more)))

pub returns : goal.returns
returns c = λ ports given h.
    let nodes = c.args.nodes.now in
    let first = c.args.out.now.items in
    c.loop-place.invariant ports given h ∙ ap (λ (ns : List PlanNode). first ++ (codes "--" ++ line_feed ∷ nodes_text ns (forgot_in nodes ports))) (take_all c.loop-place.place nodes (omega arith))
