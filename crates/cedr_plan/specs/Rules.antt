-- The rules that every accepted plan meets. What takes a plan asks for `IsPlan`.
use Rattle.std.specs.Prelude.{ℕ, ◌≡◌, ◌<◌, ◌≤◌, ◌+◌, ◌^◌, ◌==◌, Bool, true, false, ◌||◌, List, [], ◌∷◌, ◌++◌, length, map, All, count_by, if◌then◌else◌, Option, Some, None, IfSome}
use Rattle.std.specs.List.{slice_get, list_any}
use Rattle.cedr_base.specs.declared.field.FieldType.{FieldType}
use Rattle.cedr_base.specs.declared.field.FieldType.TheVariants as field_type
use Rattle.cedr_base.specs.declared.level.Level.{Level}
use Rattle.cedr_expr.specs.Columns.{kept_columns}
use Rattle.cedr_expr.specs.Types.{type_fault_of, keep_fault_of}
use Rattle.cedr_expr.specs.declared.test.Test.{Test}
use Rattle.cedr_plan.specs.declared.plan.NodeKind.{NodeKind}
use Rattle.cedr_plan.specs.declared.plan.NodeKind.TheVariants as kind
use Rattle.cedr_plan.specs.Drawn.{Node, Drawn, drawn, node_of}
use Rattle.cedr_plan.specs.Places.{is_output}
use Rattle.cedr_plan.specs.Levels.{middle, has_block_over_memory}
use Rattle.cedr_plan.specs.Nodes.{is_name, is_named, types_of, first_port, all_ports, like_first, group_types}
use Rattle.cedr_plan.specs.Operators.{Row, operator_row}
use Rattle.cedr_plan.specs.declared.operator.Operator.{Operator}
use Rattle.cedr_plan.specs.declared.operator.Operator.TheVariants as operator
use Rattle.cedr_plan.specs.declared.plan.Plan.{Plan}
use Rattle.cedr_plan.specs.declared.plan.PlanNode.{PlanNode}

-- the operator of what a node does, which is the newest one that does it
abbrev pub operator_of_kind : NodeKind → Operator
operator_of_kind (kind.Source file) = operator.Source
operator_of_kind (kind.Select tests) = operator.Select
operator_of_kind (kind.Project keep) = operator.Project
operator_of_kind kind.Union = operator.Union
operator_of_kind (kind.Join tests) = operator.Join
operator_of_kind (kind.Window width) = operator.Window
operator_of_kind (kind.Shift by) = operator.Shift
operator_of_kind (kind.Hop every width) = operator.Hop
operator_of_kind kind.Starts = operator.Starts
operator_of_kind kind.Ends = operator.Ends
operator_of_kind (kind.Group keys count sums least greatest) = operator.RangedGroup
operator_of_kind (kind.Sequence scope tests) = operator.Sequence
operator_of_kind (kind.Unless scope hold tests) = operator.Unless
operator_of_kind (kind.AtLeast number scope tests) = operator.AtLeast
operator_of_kind (kind.Except tests) = operator.Except
operator_of_kind kind.Output = operator.Output

-- the row of a node's operator
abbrev pub row_of_node : Node → Row
row_of_node node = operator_row (operator_of_kind node.kind)

-- the field types of each port of a node, in port order
abbrev pub port_types : List Node → Node → List (List FieldType)
port_types earlier node = map (types_of earlier) node.inputs

-- an earlier node that isn't an output
abbrev pub IsInput : List Node → ℕ → Type 0
IsInput earlier place = (place < length earlier) × IfSome (slice_get earlier place) (λ node. is_output node.kind ≡ false)

-- a bound of a level is at most 2^40, or without limit
abbrev pub IsBound : Option ℕ → Type 0
IsBound bound = IfSome bound (λ limit. limit ≤ 2 ^ 40)

-- the rules of a level: both bounds are in range, and the block isn't over the memory
pub record IsLevel (level : Level) : Type 0 where
  pub block : IsBound level.block
  pub memory : IsBound level.memory
  pub block_within_memory : has_block_over_memory level ≡ false

-- the numbers that a node is given, but for that of its inputs
abbrev pub numbers_of : NodeKind → List ℕ
numbers_of (kind.Window width) = width ∷ []
numbers_of (kind.Shift by) = by ∷ []
numbers_of (kind.Hop every width) = every ∷ width ∷ []
numbers_of (kind.Sequence scope tests) = scope ∷ []
numbers_of (kind.Unless scope hold tests) = scope ∷ hold ∷ []
numbers_of (kind.AtLeast number scope tests) = scope ∷ []
numbers_of other = []

-- a number that a node is given is from 1 to 2^40
abbrev pub IsNumber : ℕ → Type 0
IsNumber number = (1 ≤ number) × (number ≤ 2 ^ 40)

-- each column is there, and each test compares two sides of one type
abbrev pub AreTests : List (List FieldType) → List Test → Type 0
AreTests ports tests = (length tests ≤ 16) × (type_fault_of tests (all_ports ports) [] ≡ None)

-- each of the columns is there
abbrev pub AreColumns : List (List FieldType) → List ℕ → Type 0
AreColumns ports columns = keep_fault_of columns (all_ports ports) ≡ None

-- each of the columns is there and holds numbers
abbrev pub AreSums : List (List FieldType) → List ℕ → Type 0
AreSums ports sums = All (λ column. slice_get (all_ports ports) column ≡ Some field_type.Number) sums

-- all ports have the types of the first one
abbrev pub AreAlike : List (List FieldType) → Type 0
AreAlike ports = All (λ types. types ≡ first_port ports) ports

-- how many of the ports: from one to all of them
abbrev pub IsPortCount : List (List FieldType) → ℕ → Type 0
IsPortCount ports number = (1 ≤ number) × (number ≤ length ports)

-- what a node says of its inputs and of its columns fits its ports and their types
abbrev pub FitsPorts : NodeKind → List (List FieldType) → Type 0
FitsPorts (kind.Select tests) ports = AreTests ports tests
FitsPorts (kind.Project keep) ports = AreColumns ports keep
FitsPorts kind.Union ports = AreAlike ports
FitsPorts (kind.Join tests) ports = AreTests ports tests
FitsPorts (kind.Group keys count sums least greatest) ports = AreColumns ports keys × AreSums ports sums × AreColumns ports least × AreColumns ports greatest
FitsPorts (kind.Sequence scope tests) ports = AreTests ports tests
FitsPorts (kind.Unless scope hold tests) ports = AreTests ports tests
FitsPorts (kind.AtLeast number scope tests) ports = IsPortCount ports number × AreAlike ports × AreTests (like_first number ports) tests
FitsPorts (kind.Except tests) ports = AreTests ports tests
FitsPorts other ports = Unit {0}

-- the field types of a result; a source's are its own
abbrev pub HasTypes : NodeKind → List (List FieldType) → List FieldType → Type 0
HasTypes (kind.Source file) ports types = Unit {0}
HasTypes (kind.Project keep) ports types = types ≡ kept_columns keep (all_ports ports)
HasTypes (kind.Join tests) ports types = types ≡ all_ports ports
HasTypes (kind.Group keys count sums least greatest) ports types = types ≡ group_types keys count sums least greatest (all_ports ports)
HasTypes (kind.Sequence scope tests) ports types = types ≡ all_ports ports
HasTypes (kind.AtLeast number scope tests) ports types = types ≡ all_ports (like_first number ports)
HasTypes other ports types = types ≡ first_port ports

-- a source has the middle level, since it has no port
abbrev pub HasSourceLevel : NodeKind → Level → Type 0
HasSourceLevel (kind.Source file) level = level ≡ middle
HasSourceLevel other level = Unit {0}

-- a node may stand after the earlier ones
pub record IsNode (earlier : List Node) (node : Node) : Type 0 where
  pub name : is_name node.name ≡ true
  pub new_name : list_any (is_named node.name) earlier ≡ false
  pub least_ports : (row_of_node node).least ≤ length node.inputs
  pub most_ports : length node.inputs ≤ (row_of_node node).most
  pub inputs : All (IsInput earlier) node.inputs
  pub level : IsLevel node.level
  pub source_level : HasSourceLevel node.kind node.level
  pub numbers : All IsNumber (numbers_of node.kind)
  pub fits : FitsPorts node.kind (port_types earlier node)
  pub types : HasTypes node.kind (port_types earlier node) node.types
  pub width : length node.types ≤ 16

-- each of the nodes may stand after the earlier ones and those before it
abbrev pub AreNodes : List Node → List Node → Type 0
AreNodes earlier [] = Unit {0}
AreNodes earlier (node ∷ nodes) = IsNode earlier node × AreNodes (earlier ++ node ∷ []) nodes

-- one of the nodes reads the node at a place
abbrev pub is_read : ℕ → List Node → Bool
is_read place nodes = list_any (λ (node : Node). list_any (λ input. input == place) node.inputs) nodes

-- the number, from 1, of the first node that is no output and that no later node reads. The first one of the
-- list stands at this place in the plan
abbrev pub first_unused : ℕ → List Node → Option ℕ
first_unused place [] = None
first_unused place (node ∷ nodes) = if is_output node.kind || is_read place nodes then first_unused (place + 1) nodes else Some (place + 1)

-- the rules of a plan: each node reads earlier ones that fit, there is one output, and all else is used
pub record IsSound (plan : Drawn) : Type 0 where
  pub nodes : AreNodes [] plan.nodes
  pub count : length plan.nodes ≤ 64
  pub least_edge : 1 ≤ plan.edge
  pub most_edge : plan.edge ≤ 1024
  pub one_output : count_by (λ (node : Node). is_output node.kind) plan.nodes ≡ 1
  pub used : first_unused 0 plan.nodes ≡ None

-- the plan keeps the rules
abbrev pub IsPlan : Plan → Type 0
IsPlan plan = IsSound (drawn plan)

-- no group, or one that asks for no least and no greatest fields
abbrev pub IsPlain : NodeKind → Type 0
IsPlain (kind.Group keys count sums least greatest) = (least ≡ []) × (greatest ≡ [])
IsPlain other = Unit {0}

-- each group of the plan is plain
abbrev pub HasPlainGroups : Drawn → Type 0
HasPlainGroups plan = All (λ (node : Node). IsPlain node.kind) plan.nodes

-- the nodes of a plan that keeps the rules
pub record ArePlanned (nodes : List PlanNode) : Type 0 where
  pub plan : Drawn
  pub sound : IsSound plan
  pub nodes_are : map node_of nodes ≡ plan.nodes
