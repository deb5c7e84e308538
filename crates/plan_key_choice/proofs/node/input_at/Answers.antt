use Rattle.std.proofs.Common.{◌≡◌, ◌∙◌, ℕ, List, ap, sym}
use Rattle.std.specs.List.{slice_get}
use Rattle.cedr_plan.specs.declared.plan.PlanNode.{PlanNode}
use Rattle.plan_key_choice.proofs.Places.{input_before, input_few}
use Rattle.plan_key_choice.proofs.node.input_at.Goals as goal

pub returns-clause-before : goal.returns-clause-before
returns-clause-before c =
    let n = c.index-nodes-place.result in
    let read : c.deref.result.now ≡ n.inputs.items = c.deref.ensures.value ∙ ap (λ (m : PlanNode). m.inputs.items) (sym c.index-nodes-place.is) in
    input_before c.args.nodes.now c.requires.nodes c.args.place n c.requires.within c.index-nodes-place.is c.args.port c.get_input.result (c.get_input.ensures ∙ ap (λ (inputs : List ℕ). slice_get inputs c.args.port) read)

pub returns-clause-few : goal.returns-clause-few
returns-clause-few c =
    let n = c.index-nodes-place.result in
    let read : c.deref.result.now ≡ n.inputs.items = c.deref.ensures.value ∙ ap (λ (m : PlanNode). m.inputs.items) (sym c.index-nodes-place.is) in
    input_few c.args.nodes.now c.requires.nodes c.args.place n c.requires.within c.index-nodes-place.is c.args.port c.get_input.result (c.get_input.ensures ∙ ap (λ (inputs : List ℕ). slice_get inputs c.args.port) read)
