-- What `check` writes of a plan: a line for each node, with its name, its operator and its field types.
use Rattle.std.specs.Prelude.{ℕ, List, [], ◌∷◌, ◌++◌, codes}
use Rattle.std.specs.List.{flat_map}
use Rattle.cedr_base.specs.declared.field.FieldType.{FieldType}
use Rattle.cedr_base.specs.declared.field.FieldType.TheVariants as field_type
use Rattle.cedr_base.specs.Bytes.{comma, line_feed}
use Rattle.cedr_plan.specs.Drawn.{Node}
use Rattle.cedr_plan.specs.Rules.{row_of_node}

-- a field type as `check` writes it: `int` or `text`
abbrev pub type_text : FieldType → List ℕ
type_text field_type.Number = codes "int"
type_text field_type.Bytes = codes "text"

-- each type stands after a comma
abbrev pub types_text : List FieldType → List ℕ
types_text types = flat_map (λ type. comma ∷ type_text type) types

-- `NAME,OP,TYPE..` and a line feed
abbrev pub node_text : Node → List ℕ
node_text node = node.name ++ comma ∷ ((row_of_node node).word ++ (types_text node.types ++ line_feed ∷ []))

-- the lines of the nodes, in the plan's order
abbrev pub check_text : List Node → List ℕ
check_text nodes = flat_map node_text nodes
