use Rattle.std.proofs.Common.{◌≡◌, ◌<◌, ◌+◌, ◌++◌, ◌∷◌, [], List, length, get_or, take, ap, sym, ◌∙◌, subst, rules}
use Rattle.std.proofs.lemmas.List.{take_more}
use Rattle.cedr_plan.specs.declared.plan.PlanNode.{PlanNode}
use Rattle.cedr_text.specs.declared.event_line.Shape.TheVariants.{Fields}
use Rattle.plan_live.specs.Scripts.{ShapesHaveTypes}
use Rattle.plan_live.proofs.LineLemmas.{shapes_push}
use Rattle.plan_live.proofs.guards.shapes_of.Goals as goal

pub loop-node-preserved : goal.loop-node-preserved
loop-node-preserved c =
    let nodes = c.args.nodes.now in
    let i = c.loop-node.node-index in
    let n = c.node-item.result in
    let types = c.in_ok-types.types in
    let shapes = c.loop-node.shapes.items in
    let within : i < length nodes = search rules in
    let at : get_or nodes i n ≡ n = search rules in
    let more : take (i + 1) nodes ≡ take i nodes ++ n ∷ [] = take_more nodes i n within ∙ ap (λ (m : PlanNode). take i nodes ++ m ∷ []) at in
    subst (λ (ns : List PlanNode). ShapesHaveTypes ns c.push.new.self.items) (sym more)
    (subst (ShapesHaveTypes (take i nodes ++ n ∷ [])) (sym c.in_ok-push.ensures.items)
    (shapes_push (take i nodes) shapes n (Fields types) c.loop-node.invariant (c.in_ok-types.ensures.items ∙ c.as_slice.ensures.value)))
