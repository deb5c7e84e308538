use Rattle.std.proofs.Common.{◌∙◌, sym, ap, ℕ, arith, length}
use Rattle.std.specs.Prelude.{unwrap_or, nat_lt, cond, Some, None}
use Rattle.cedr_plan.specs.declared.plan.PlanNode.{PlanNode}
use Rattle.cedr_plan.specs.Places.{is_output}
use Rattle.cedr_plan.proofs.PlaceLemmas.{found_at, place_is}
use Rattle.cedr_plan.proofs.places.find_output.Goals as goal

pub returns-then-is_output-clause-place : goal.returns-then-is_output-clause-place
returns-then-is_output-clause-place c =
    let nodes = c.args.nodes.now in
    let place = c.loop-place.place in
    let node = c.index-nodes-place.result in
    let is = sym c.is_output.ensures ∙ c.if-is_output.true in
    let first = found_at (λ (n : PlanNode). is_output n.kind) nodes place node (omega arith) c.loop-place.invariant is in
    sym (ap (λ (p : ℕ). unwrap_or (cond (nat_lt p (length nodes)) (Some p) None) 0) first ∙ place_is place (length nodes) (omega arith))
