-- The text and the rows of an answer.
use Rattle.std.proofs.Common.{◌≡◌, ℕ, List, [], ◌++◌, Bool, ap, ◌∙◌}
use Rattle.cedr_base.specs.declared.row.Row.{Row}
use Rattle.node_laws.specs.Lists.{Lists}
use Rattle.cedr_plan.specs.declared.plan.PlanNode.{PlanNode}
use Rattle.plan_runs.specs.Without.{forgot_in}
use Rattle.plan_answer.specs.Answers.{answer_text}

-- what is appended to an empty text
pub text_alone : (told asked : Bool) (ns nodes : List PlanNode) (ports : List Lists) (rows sorted : List Row) (first text : List ℕ) → told ≡ asked → ns ≡ nodes → rows ≡ sorted → first ≡ []
    → text ≡ first ++ answer_text told ns rows (forgot_in ns ports) → text ≡ answer_text asked nodes sorted (forgot_in nodes ports)
text_alone told asked ns nodes ports rows sorted first text told_is ns_are rows_are none is =
    is
    ∙ (ap (λ (t : List ℕ). t ++ answer_text told ns rows (forgot_in ns ports)) none
    ∙ (ap (λ (b : Bool). answer_text b ns rows (forgot_in ns ports)) told_is
    ∙ (ap (λ (ms : List PlanNode). answer_text asked ms rows (forgot_in ms ports)) ns_are ∙ ap (λ (rs : List Row). answer_text asked nodes rs (forgot_in nodes ports)) rows_are)))
