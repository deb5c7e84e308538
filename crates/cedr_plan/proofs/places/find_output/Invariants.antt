use Rattle.std.proofs.Common.{◌≡◌, take}
use Rattle.std.specs.List.{position_or_len}
use Rattle.cedr_plan.specs.declared.plan.PlanNode.{PlanNode}
use Rattle.cedr_plan.specs.Places.{is_output}
use Rattle.cedr_plan.proofs.places.find_output.Given as goal

abbrev pub invariant-loop-place : goal.invariant-loop-place
invariant-loop-place l = position_or_len (λ (node : PlanNode). is_output node.kind) (take l.place l.nodes) ≡ l.place
