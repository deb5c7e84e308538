-- Which nodes of a plan are its sources, and which one is its output.
use Rattle.std.specs.Prelude.{ℕ, Bool, true, false, List, count_by, unwrap_or}
use Rattle.std.specs.List.{position}
use Rattle.cedr_plan.specs.declared.plan.NodeKind.{NodeKind}
use Rattle.cedr_plan.specs.declared.plan.NodeKind.TheVariants as kind
use Rattle.cedr_plan.specs.declared.plan.PlanNode.{PlanNode}

-- a node of this kind is a source
abbrev pub is_source : NodeKind → Bool
is_source (kind.Source file) = true
is_source other = false

-- a node of this kind is an output
abbrev pub is_output : NodeKind → Bool
is_output kind.Output = true
is_output other = false

-- how many of the nodes are sources
abbrev pub source_count : List PlanNode → ℕ
source_count nodes = count_by (λ (node : PlanNode). is_source node.kind) nodes

-- where the output stands among the nodes
abbrev pub output_place : List PlanNode → ℕ
output_place nodes = unwrap_or (position (λ (node : PlanNode). is_output node.kind) nodes) 0
