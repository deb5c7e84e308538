-- The text of what the ports of a plan's nodes forgot, as it is listed port by port.
use Rattle.std.specs.Prelude.{ℕ, List, [], ◌∷◌, ◌++◌, map, slice_index_or}
use Rattle.plan_answer.specs.Forgettings.{PortForgot}
use Rattle.cedr_plan.specs.declared.plan.PlanNode.{PlanNode}
use Rattle.plan_answer.specs.Answers.{port_text}

-- the name of a node
abbrev pub name_of : PlanNode → List ℕ
name_of node = node.name

-- the name of the node at a place
abbrev pub name_at : List PlanNode → ℕ → List ℕ
name_at nodes place = slice_index_or (map name_of nodes) place []

-- a line for each change that a port forgot, in the order in which the ports are listed
abbrev pub all_forgotten_text : List PlanNode → List PortForgot → List ℕ
all_forgotten_text nodes [] = []
all_forgotten_text nodes (t ∷ ts) = port_text (name_at nodes t.node) t.port t.list ++ all_forgotten_text nodes ts
