-- Which plans are answered by parts of their keys.
use Rattle.std.specs.Prelude.{ℕ, ◌≡◌, List, [], length}
use Rattle.cedr_plan.specs.declared.plan.PlanNode.{PlanNode}
use Rattle.plan_keys.specs.Keys.{AreKeyed}
use Rattle.plan_runs.specs.Without.{Remembers}

-- all nodes of a plan keep the key in these columns, one for each node, and no port forgets
pub record CanBeDivided (columns : List ℕ) (nodes : List PlanNode) : Type 0 where
  pub count : length columns ≡ length nodes
  pub keyed : AreKeyed columns [] nodes
  pub remembers : Remembers nodes
