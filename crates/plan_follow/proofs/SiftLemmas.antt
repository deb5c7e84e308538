-- Lines that are taken one after the other.
use Rattle.std.proofs.Common.{◌≡◌, ℕ, List, [], ◌∷◌, ◌++◌, refl, Option}
use Rattle.cedr_plan.specs.declared.plan.PlanNode.{PlanNode}
use Rattle.cedr_text.specs.declared.event_line.Shape.{Shape}
use Rattle.plan_follow.specs.Sifted.{Sifted, sifted, with_answer}

-- some lines, and then others
pub sifted-append : (nodes : List PlanNode) (shapes : List Shape) (s : Sifted) (answers others : List (Option (List ℕ))) → sifted nodes shapes s (answers ++ others) ≡ sifted nodes shapes (sifted nodes shapes s answers) others
sifted-append nodes shapes s [] others = refl
sifted-append nodes shapes s (answer ∷ answers) others = sifted-append nodes shapes (with_answer nodes shapes s answer) answers others
