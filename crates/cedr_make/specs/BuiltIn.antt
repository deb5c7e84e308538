-- The plan of the workload: two sources are joined by their keys, and the pairs of each key are counted and
-- the values of their left sides summed.
use Rattle.std.specs.Prelude.{ℕ, List, [], ◌∷◌, codes, true}
use Rattle.cedr_base.specs.declared.field.FieldType.{FieldType}
use Rattle.cedr_base.specs.declared.field.FieldType.TheVariants as field_type
use Rattle.cedr_expr.specs.declared.test.Op.TheVariants.{Eq}
use Rattle.cedr_expr.specs.declared.test.Operand.TheVariants.{Column}
use Rattle.cedr_expr.specs.declared.test.Test.{Test}
use Rattle.cedr_plan.specs.declared.plan.NodeKind.{NodeKind}
use Rattle.cedr_plan.specs.declared.plan.NodeKind.TheVariants as kind
use Rattle.cedr_plan.specs.Drawn.{Node, Drawn}
use Rattle.cedr_plan.specs.Levels.{middle}

-- a key and a value
abbrev pub event_types : List FieldType
event_types = field_type.Bytes ∷ field_type.Number ∷ []

-- a key and a value of each side
abbrev pub pair_types : List FieldType
pair_types = field_type.Bytes ∷ field_type.Number ∷ field_type.Bytes ∷ field_type.Number ∷ []

-- a key, how many pairs it has, and the sum of the values of their left sides
abbrev pub total_types : List FieldType
total_types = field_type.Bytes ∷ field_type.Number ∷ field_type.Number ∷ []

-- both keys are the same
abbrev pub same_keys : List Test
same_keys = record { left = 0; op = Eq; right = Column 2 } ∷ []

-- a node of the middle level
abbrev pub node : List ℕ → NodeKind → List ℕ → List FieldType → Node
node name kind inputs types = record { name = name; kind = kind; inputs = inputs; level = middle; types = types }

-- its file has its name
abbrev pub source_node : List ℕ → Node
source_node name = node name (kind.Source name) [] event_types

-- the source `a`, the left side of the join
abbrev pub left_source : Node
left_source = source_node (codes "a")

-- the source `b`, the right side of the join
abbrev pub right_source : Node
right_source = source_node (codes "b")

-- the join of the two sources where their keys are the same
abbrev pub pairs_node : Node
pairs_node = node (codes "j") (kind.Join same_keys) (0 ∷ 1 ∷ []) pair_types

-- by the key of the left side, whose values are summed
abbrev pub totals_node : Node
totals_node = node (codes "g") (kind.Group (0 ∷ []) true (1 ∷ []) [] []) (2 ∷ []) total_types

-- the output: the totals of each key
abbrev pub out_node : Node
out_node = node (codes "out") kind.Output (3 ∷ []) total_types

-- the plan: its five nodes, with 64 messages on an edge at most
abbrev pub built_in : Drawn
built_in = record { nodes = left_source ∷ right_source ∷ pairs_node ∷ totals_node ∷ out_node ∷ []; edge = 64 }
