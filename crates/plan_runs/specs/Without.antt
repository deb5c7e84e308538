-- The query with forgotten changes left out.
use Rattle.std.specs.Prelude.{ℕ, ◌≡◌, List, [], ◌∷◌, ◌++◌, length, map, slice_index_or, if◌then◌else◌, None}
use Rattle.cedr_base.specs.declared.row.Row.{Row}
use Rattle.cedr_base.specs.Changes.{all_puts, all_takes}
use Rattle.cedr_plan.specs.declared.plan.PlanNode.{PlanNode}
use Rattle.cedr_table.specs.Operators.{Tables, table_at}
use Rattle.node_laws.specs.declared.forgotten.Forgotten.{Forgotten}
use Rattle.node_laws.specs.Surplus.{less}
use Rattle.node_laws.specs.Lists.{Lists}
use Rattle.node_laws.specs.Kept.{forgot, changes_in}
use Rattle.cedr_query.specs.Queries.{input_tables, each_node}
use Rattle.cedr_plan.specs.Places.{is_source, source_count}
use Rattle.op_node.specs.Meanings.{meaning_of}

-- a table less the deltas of the changes that were forgotten
abbrev pub left_out : List Row → List Forgotten → List Row
left_out rows listed = less (rows ++ all_takes (changes_in listed)) (all_puts (changes_in listed))

-- the tables of ports, each less what its port forgot
abbrev pub all_left_out : Tables → List (List Forgotten) → Tables
all_left_out [] listed = []
all_left_out (t ∷ ts) [] = t ∷ ts
all_left_out (t ∷ ts) (l ∷ ls) = left_out t l ∷ all_left_out ts ls

-- what the ports of the node at a place forgot
abbrev pub listed_at : List (List (List Forgotten)) → ℕ → List (List Forgotten)
listed_at listed place = slice_index_or listed place []

-- the table of a node, where each port's table is that of the node that it reads less what the port forgot
abbrev pub node_table_without : List (List (List Forgotten)) → Tables → List PlanNode → Tables → PlanNode → List Row
node_table_without listed sources before tables node =
    if is_source node.kind then table_at sources (source_count before) else (meaning_of node).result (all_left_out (input_tables tables node) (listed_at listed (length before)))

-- the query with forgotten changes left out: the tables of all nodes, from one table for each source
abbrev pub query_without : List (List (List Forgotten)) → Tables → List PlanNode → Tables
query_without listed sources nodes = each_node (node_table_without listed sources) [] [] nodes

-- what each port of a node forgot of its list
abbrev pub forgot_on : PlanNode → Lists → List (List Forgotten)
forgot_on node lists = map (forgot node.level.memory) lists

-- what each port of each node forgot of its list, in plan order
abbrev pub forgot_in : List PlanNode → List Lists → List (List (List Forgotten))
forgot_in [] ports = []
forgot_in (n ∷ nodes) [] = forgot_on n [] ∷ forgot_in nodes []
forgot_in (n ∷ nodes) (p ∷ ports) = forgot_on n p ∷ forgot_in nodes ports

-- no node forgets
abbrev pub Remembers : List PlanNode → Type 0
Remembers [] = Unit {0}
Remembers (n ∷ nodes) = (n.level.memory ≡ None) × Remembers nodes
