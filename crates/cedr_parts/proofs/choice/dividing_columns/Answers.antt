use Rattle.std.proofs.Common.{◌≡◌, ◌∙◌, List, false, subst, sym}
use Rattle.cedr_plan.specs.declared.plan.PlanNode.{PlanNode}
use Rattle.plan_answer.specs.Answers.{has_memory}
use Rattle.cedr_parts.proofs.DividedLemmas.{remembers_all}
use Rattle.cedr_parts.proofs.choice.dividing_columns.Goals as goal

pub returns-in-Ok : goal.returns-in-Ok
returns-in-Ok c =
    let choice = c.in-Ok.ensures.choice in
    let none : has_memory c.args.plan.now.nodes.items ≡ false = subst (λ (nodes : List PlanNode). has_memory nodes ≡ false) c.as_slice.ensures.value (sym c.has_memory.ensures ∙ c.if-has_memory.false) in
    record { count = choice.count; keyed = choice.keyed; remembers = remembers_all c.args.plan.now.nodes.items none }
