-- Plans as lists: what a `Plan` and its nodes are, without where they lie in memory.
use Rattle.std.specs.Prelude.{ℕ, List, map}
use Rattle.cedr_base.specs.declared.field.FieldType.{FieldType}
use Rattle.cedr_base.specs.declared.level.Level.{Level}
use Rattle.cedr_plan.specs.declared.plan.NodeKind.{NodeKind}
use Rattle.cedr_plan.specs.declared.plan.PlanNode.{PlanNode}
use Rattle.cedr_plan.specs.declared.plan.Plan.{Plan}

-- a node: its name, what it does, the places of the nodes that feed its ports, their level, and the types of
-- its result's fields
pub record Node : Type 0 where
  pub name : List ℕ
  pub kind : NodeKind
  pub inputs : List ℕ
  pub level : Level
  pub types : List FieldType

-- a plan: its nodes, and how many messages an edge holds
pub record Drawn : Type 0 where
  pub nodes : List Node
  pub edge : ℕ

-- a `PlanNode` as a node, without where it lies in memory
abbrev pub node_of : PlanNode → Node
node_of node = record { name = node.name; kind = node.kind; inputs = node.inputs.items; level = node.level; types = node.types.items }

-- a `Plan` as lists, without where it lies in memory
abbrev pub drawn : Plan → Drawn
drawn plan = record { nodes = map node_of plan.nodes.items; edge = plan.edge }
