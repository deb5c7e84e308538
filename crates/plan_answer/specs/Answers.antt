-- What is written of a plan's answer.
use Rattle.std.specs.Prelude.{ℕ, ◌+◌, Bool, true, false, List, [], ◌∷◌, ◌++◌, codes, Option, Some, None, if◌then◌else◌}
use Rattle.std.specs.List.{list_any}
use Rattle.cedr_base.specs.declared.row.Row.{Row}
use Rattle.node_laws.specs.declared.forgotten.Cause.{Cause}
use Rattle.node_laws.specs.declared.forgotten.Cause.TheVariants as cause
use Rattle.node_laws.specs.declared.forgotten.Forgotten.{Forgotten}
use Rattle.cedr_plan.specs.declared.plan.PlanNode.{PlanNode}
use Rattle.cedr_base.specs.Bytes.{line_feed}
use Rattle.cedr_text.specs.Texts.{rows_text, forgotten_text}

-- the word for a cause
abbrev pub cause_text : Cause → List ℕ
cause_text cause.Late = codes "late"
cause_text cause.Orphan = codes "orphan"

-- a line for a change that a port of the node of this name forgot
abbrev pub forgotten_line : List ℕ → ℕ → Forgotten → List ℕ
forgotten_line name port f = forgotten_text name port (cause_text f.cause) f.high f.change

-- the lines of a port, in the order in which the changes came
abbrev pub port_text : List ℕ → ℕ → List Forgotten → List ℕ
port_text name port [] = []
port_text name port (f ∷ fs) = forgotten_line name port f ++ port_text name port fs

-- those of the ports of a node from one on
abbrev pub ports_text : List ℕ → ℕ → List (List Forgotten) → List ℕ
ports_text name port [] = []
ports_text name port (fs ∷ ports) = port_text name port fs ++ ports_text name (port + 1) ports

-- those of all nodes, in the order of the plan
abbrev pub nodes_text : List PlanNode → List (List (List Forgotten)) → List ℕ
nodes_text [] listed = []
nodes_text (node ∷ nodes) [] = []
nodes_text (node ∷ nodes) (ports ∷ listed) = ports_text node.name 0 ports ++ nodes_text nodes listed

-- the level forgets what comes too late
abbrev pub is_finite : Option ℕ → Bool
is_finite None = false
is_finite (Some memory) = true

-- some node has a finite memory
abbrev pub has_memory : List PlanNode → Bool
has_memory nodes = list_any (λ (node : PlanNode). is_finite node.level.memory) nodes

-- what was forgotten, after a line of its own
abbrev pub tail_text : List PlanNode → List (List (List Forgotten)) → List ℕ
tail_text nodes listed = codes "--" ++ line_feed ∷ nodes_text nodes listed

-- the rows, and what was forgotten where that is asked for
abbrev pub answer_text : Bool → List PlanNode → List Row → List (List (List Forgotten)) → List ℕ
answer_text with_tail nodes rows listed = rows_text rows ++ (if with_tail then tail_text nodes listed else [])
