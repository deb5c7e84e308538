-- What a plan's nodes make of the tables and the marks of its sources.
use Rattle.std.specs.Prelude.{ℕ, List, [], ◌∷◌, ◌++◌, map, if◌then◌else◌}
use Rattle.cedr_base.specs.declared.row.Row.{Row}
use Rattle.cedr_plan.specs.declared.plan.PlanNode.{PlanNode}
use Rattle.cedr_plan.specs.Places.{is_source, source_count}
use Rattle.cedr_table.specs.Operators.{Tables, table_at, mark_at}
use Rattle.op_node.specs.Meanings.{meaning_of}

-- the tables of the nodes that a node reads, one for each port
abbrev pub input_tables : Tables → PlanNode → Tables
input_tables tables node = map (table_at tables) node.inputs.items

-- the marks of the nodes that a node reads, one for each port
abbrev pub input_marks : List ℕ → PlanNode → List ℕ
input_marks marks node = map (mark_at marks) node.inputs.items

-- a value for each node, in plan order: it is made of the nodes before it, their values, and the node
abbrev pub each_node : {X : Type 0} → (List PlanNode → List X → PlanNode → X) → List PlanNode → List X → List PlanNode → List X
each_node make before done [] = done
each_node make before done (node ∷ nodes) = each_node make (before ++ node ∷ []) (done ++ make before done node ∷ []) nodes

-- the table of a node: a source has its own one, and any other node the rows that it means at its inputs' tables
abbrev pub node_table : Tables → List PlanNode → Tables → PlanNode → List Row
node_table sources before tables node = if is_source node.kind then table_at sources (source_count before) else (meaning_of node).result (input_tables tables node)

-- the query: the tables of all nodes, from one table for each source
abbrev pub query : Tables → List PlanNode → Tables
query sources nodes = each_node (node_table sources) [] [] nodes

-- the mark of a node: a source has its own one, and any other node the bound at its inputs' queries and marks
abbrev pub node_mark : Tables → List ℕ → List PlanNode → List ℕ → PlanNode → ℕ
node_mark tables sources before marks node = if is_source node.kind then mark_at sources (source_count before) else (meaning_of node).bound (input_tables tables node) (input_marks marks node)

-- how far each node reaches, from one table and one mark for each source
abbrev pub reaches : Tables → List ℕ → List PlanNode → List ℕ
reaches tables marks nodes = each_node (node_mark (query tables nodes) marks) [] [] nodes
