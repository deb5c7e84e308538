-- What is written of a plan's keys, and of a plan that has none.
use Rattle.std.specs.Prelude.{ℕ, ◌+◌, List, [], ◌∷◌, ◌++◌, codes, decimal, if◌then◌else◌}
use Rattle.cedr_base.specs.Bytes.{comma, line_feed}
use Rattle.cedr_plan.specs.Faults.{plan_fault_number}
use Rattle.cedr_plan.specs.Places.{is_source}
use Rattle.cedr_plan.specs.declared.fault.PlanKind.{PlanKind}
use Rattle.cedr_plan.specs.declared.plan.PlanNode.{PlanNode}
use Rattle.plan_keys.specs.Keys.{column_at}

-- `NAME,COLUMN` and a line feed
abbrev pub key_line : PlanNode → ℕ → List ℕ
key_line node column = node.name ++ comma ∷ (decimal column ++ line_feed ∷ [])

-- the line of each source, in the plan's order, where the first of the nodes stands at this place
abbrev pub keys_text : List ℕ → List PlanNode → ℕ → List ℕ
keys_text columns [] place = []
keys_text columns (n ∷ nodes) place = (if is_source n.kind then key_line n (column_at columns place) else []) ++ keys_text columns nodes (place + 1)

-- what is told of a plan that isn't keyed, at a node that keeps no column
abbrev pub unkeyed_text : PlanNode → List ℕ
unkeyed_text node = codes "no column of the output is kept by all nodes: it ends at " ++ (node.name ++ line_feed ∷ [])

-- the number of a plan's fault, and of the node that has it
abbrev pub bad_plan_text : PlanKind → ℕ → List ℕ
bad_plan_text kind node = codes "plan fault " ++ (decimal (plan_fault_number kind) ++ (codes " node " ++ (decimal node ++ line_feed ∷ [])))
