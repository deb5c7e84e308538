use Rattle.std.proofs.Common.{◌≡◌, List, [], ◌∷◌, ◌++◌, ◌∙◌, ◌+◌, ℕ, ap, length, replicate, sym, subst, rules, arith}
use Rattle.std.specs.Prelude.{map}
use Rattle.node_laws.specs.Lists.{Lists}
use Rattle.cedr_plan.specs.declared.plan.PlanNode.{PlanNode}
use Rattle.cedr_plan.specs.Drawn.{node_of}
use Rattle.cedr_plan.specs.Rules.{AreNodes}
use Rattle.cedr_net.specs.declared.work.Work.{Work}
use Rattle.cedr_net.proofs.NewLemmas.{NewUpTo, none_new, new_on, new_whole, can_be_made}
use Rattle.cedr_net.proofs.flow.Flow.new.Goals as goal

pub loop-place-init : goal.loop-place-init
loop-place-init c = none_new c.as_slice-nodes.result.now c.new-readers.result.items c.new-waiting.result.items c.new-works.result.items c.new-readers.ensures.items c.new-waiting.ensures.items c.new-works.ensures.items

pub new-requires-in-loop-place-clause-ready : goal.new-requires-in-loop-place-clause-ready
new-requires-in-loop-place-clause-ready c =
    let n = c.index-nodes-place in
    (can_be_made c.as_slice-nodes.result.now c.loop-place.place n.result (subst (λ (ns : List PlanNode). AreNodes [] (map node_of ns)) (sym c.as_slice-nodes.ensures.value) c.requires.plan.nodes) (search rules) (sym n.is)).0

pub new-requires-in-loop-place-clause-level : goal.new-requires-in-loop-place-clause-level
new-requires-in-loop-place-clause-level c =
    let n = c.index-nodes-place in
    (can_be_made c.as_slice-nodes.result.now c.loop-place.place n.result (subst (λ (ns : List PlanNode). AreNodes [] (map node_of ns)) (sym c.as_slice-nodes.ensures.value) c.requires.plan.nodes) (search rules) (sym n.is)).1

pub loop-place-preserved : goal.loop-place-preserved
loop-place-preserved c =
    let nodes = c.as_slice-nodes.result.now in
    let loop = c.loop-place in
    let n = c.index-nodes-place in
    let queues : c.in_ok-new.field-0 ≡ replicate (length n.result.inputs.items) [] = c.in_ok-new.ensures ∙ ap (λ (k : ℕ). replicate k []) (search rules) in
    subst (λ (ws : List Work). NewUpTo nodes (loop.place + 1) c.push.new.self.items c.push-in-loop-place.new.self.items ws) (sym c.in_ok-push-3.ensures.items)
    (subst (λ (qs : List Lists). NewUpTo nodes (loop.place + 1) c.push.new.self.items qs (loop.works.items ++ c.in_ok-new-2.field-0 ∷ [])) (sym c.in_ok-push-2.ensures.items)
    (subst (λ (rs : List (List (ℕ × ℕ))). NewUpTo nodes (loop.place + 1) rs (loop.waiting.items ++ c.in_ok-new.field-0 ∷ []) (loop.works.items ++ c.in_ok-new-2.field-0 ∷ [])) (sym c.in_ok-push.ensures.items)
    (new_on nodes loop.place loop.readers.items loop.waiting.items loop.works.items c.in_ok-of.field-0 c.in_ok-new.field-0 c.in_ok-new-2.field-0 n.result loop.invariant (search rules) (sym n.is) c.in_ok-of.ensures queues c.in_ok-new-2.ensures)))

pub returns-clause-stands : goal.returns-clause-stands
returns-clause-stands c =
    let loop = c.loop-place in
    let plan = c.args.plan.now in
    let end : loop.place ≡ length plan.nodes.items = omega (arith, ap (λ (ns : List PlanNode). length ns) c.as_slice-nodes.ensures.value) in
    new_whole plan _ c.requires.plan loop.place end
    (subst (λ (ns : List PlanNode). NewUpTo ns loop.place loop.readers.items loop.waiting.items loop.works.items) c.as_slice-nodes.ensures.value loop.invariant)
    (search rules) (search rules) (search rules)
