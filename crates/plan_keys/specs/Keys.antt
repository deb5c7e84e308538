-- Plans whose nodes all keep one key, and the part of a table that some keys have.
use Rattle.std.specs.Prelude.{ℕ, ◌+◌, ◌≡◌, ◌<◌, ◌==◌, Bool, true, false, ◌&&◌, ◌||◌, List, [], ◌∷◌, ◌++◌, length, map, replicate, slice_index, count_by, Option, Some, if◌then◌else◌}
use Rattle.std.specs.List.{filter, flat_map, list_any, slice_get, AllByRecursion}
use Rattle.cedr_base.specs.declared.field.Field.{Field}
use Rattle.cedr_base.specs.declared.row.Row.{Row}
use Rattle.cedr_expr.specs.declared.test.Op.{Op}
use Rattle.cedr_expr.specs.declared.test.Op.TheVariants.{Eq}
use Rattle.cedr_expr.specs.declared.test.Operand.{Operand}
use Rattle.cedr_expr.specs.declared.test.Operand.TheVariants as operand
use Rattle.cedr_expr.specs.declared.test.Test.{Test}
use Rattle.cedr_plan.specs.declared.plan.NodeKind.{NodeKind}
use Rattle.cedr_plan.specs.declared.plan.NodeKind.TheVariants as kind
use Rattle.cedr_plan.specs.declared.plan.PlanNode.{PlanNode}
use Rattle.cedr_plan.specs.Drawn.{node_of}
use Rattle.cedr_plan.specs.Nodes.{types_of}
use Rattle.cedr_plan.specs.Places.{is_source}
use Rattle.cedr_query.specs.Queries.{query}
use Rattle.cedr_table.specs.Operators.{Tables, Meaning, table_at}

-- the key of a row: its field in the key column, and none where the row has no such column
abbrev pub row_key : ℕ → Row → Option Field
row_key column r = slice_get r.payload column

-- the rows of a table whose key is one of mine
abbrev pub key_part : (Option Field → Bool) → ℕ → List Row → List Row
key_part mine column rows = filter (λ (r : Row). mine (row_key column r)) rows

-- a port: the key column of the rows that come on it, and how many fields they have
pub record KeyedPort : Type 0 where
  pub column : ℕ
  pub width : ℕ

-- the part of each port's table
abbrev pub key_parts : (Option Field → Bool) → List KeyedPort → Tables → Tables
key_parts mine ports [] = []
key_parts mine [] (t ∷ tables) = t ∷ tables
key_parts mine (p ∷ ports) (t ∷ tables) = key_part mine p.column t ∷ key_parts mine ports tables

-- each row has so many fields
abbrev pub AreWide : ℕ → List Row → Type 0
AreWide width rows = AllByRecursion (λ (r : Row). length r.payload ≡ width) rows

-- there is a table for each port, and its rows have the port's width
abbrev pub FitPorts : List KeyedPort → Tables → Type 0
FitPorts [] [] = Unit {0}
FitPorts [] (t ∷ tables) = ⊥
FitPorts (p ∷ ports) [] = ⊥
FitPorts (p ∷ ports) (t ∷ tables) = AreWide p.width t × FitPorts ports tables

-- An operator is answered key by key, where its ports and its result have these key columns: the part of its result is
-- its result over the parts.
abbrev pub IsAnsweredByKey : Meaning → List KeyedPort → ℕ → Type 0
IsAnsweredByKey meaning ports column = (mine : Option Field → Bool) (tables : Tables) → FitPorts ports tables → meaning.result (key_parts mine ports tables) ≡ key_part mine column (meaning.result tables)

-- ---- which nodes keep a key

-- the places of the key columns in the payloads of all ports, one after the other
abbrev pub key_places : ℕ → List KeyedPort → List ℕ
key_places first [] = []
key_places first (p ∷ ports) = (first + p.column) ∷ key_places (first + p.width) ports

-- the two columns are the ones that are compared for equality
abbrev pub compares_both : ℕ → ℕ → ℕ → Op → Operand → Bool
compares_both one other left Eq (operand.Column right) = ((left == one) && (right == other)) || ((left == other) && (right == one))
compares_both one other left op o = false

-- a test wants two columns equal
abbrev pub ties : ℕ → ℕ → Test → Bool
ties one other test = compares_both one other test.left test.op test.right

-- each of the places is tied to an earlier one
abbrev pub AreTiedTo : List Test → List ℕ → List ℕ → Type 0
AreTiedTo tests earlier [] = Unit {0}
AreTiedTo tests earlier (p ∷ places) = (list_any (λ (e : ℕ). list_any (ties e p) tests) earlier ≡ true) × AreTiedTo tests (p ∷ earlier) places

-- each of the places, from the second one on, is tied to an earlier one
abbrev pub AreTiedPlaces : List Test → List ℕ → Type 0
AreTiedPlaces tests [] = Unit {0}
AreTiedPlaces tests (p ∷ places) = AreTiedTo tests (p ∷ []) places

-- the key column of each port is one of its columns
abbrev pub AreInWidth : List KeyedPort → Type 0
AreInWidth ports = AllByRecursion (λ (p : KeyedPort). p.column < p.width) ports

-- the ports have this key column
abbrev pub HaveColumn : ℕ → List KeyedPort → Type 0
HaveColumn column ports = AllByRecursion (λ (p : KeyedPort). p.column ≡ column) ports

-- a column is one of the places
abbrev pub IsOneOf : ℕ → List ℕ → Type 0
IsOneOf column places = list_any (λ (p : ℕ). p == column) places ≡ true

-- the tests tie the key columns of ports whose payloads are joined, and the key column of the result is one of them
pub record IsTiedJoin (tests : List Test) (ports : List KeyedPort) (column : ℕ) : Type 0 where
  pub within : AreInWidth ports
  pub tied : AreTiedPlaces tests (key_places 0 ports)
  pub column_is : IsOneOf column (key_places 0 ports)

-- the first port
abbrev pub first_alone : List KeyedPort → List KeyedPort
first_alone [] = []
first_alone (p ∷ ports) = p ∷ []

-- the tests tie the key columns of the ports, and the result keeps that of the first port
pub record IsTiedFirst (tests : List Test) (ports : List KeyedPort) (column : ℕ) : Type 0 where
  pub within : AreInWidth ports
  pub tied : AreTiedPlaces tests (key_places 0 ports)
  pub column_is : HaveColumn column (first_alone ports)

-- so many ports, each like the first one
abbrev pub first_repeated : ℕ → List KeyedPort → List KeyedPort
first_repeated number [] = []
first_repeated number (p ∷ ports) = replicate number p

-- each port is like the first one
abbrev pub AreOneKind : List KeyedPort → Type 0
AreOneKind [] = Unit {0}
AreOneKind (p ∷ ports) = AllByRecursion (λ (other : KeyedPort). other ≡ p) ports

-- kept in this order, these columns have each port's key column at the place of the result's
abbrev pub AreRenamed : List ℕ → List KeyedPort → ℕ → Type 0
AreRenamed columns ports column = AllByRecursion (λ (p : KeyedPort). slice_get columns column ≡ Some p.column) ports

-- A node keeps the key, where its ports and its result have these key columns. What makes its rows of one row each keeps
-- the column, and a projection and a grouping have it among the columns that they keep. What puts rows of several ports
-- together ties the key columns of its ports by tests for equality.
abbrev pub KeepsKey : NodeKind → List KeyedPort → ℕ → Type 0
KeepsKey (kind.Source file) ports column = Unit {0}
KeepsKey (kind.Project keep) ports column = AreRenamed keep ports column
KeepsKey (kind.Join tests) ports column = IsTiedJoin tests ports column
KeepsKey (kind.Group keys count sums least greatest) ports column = AreRenamed keys ports column
KeepsKey (kind.Sequence scope tests) ports column = IsTiedJoin tests ports column
KeepsKey (kind.Unless scope hold tests) ports column = IsTiedFirst tests ports column
KeepsKey (kind.AtLeast number scope tests) ports column = AreOneKind ports × IsTiedJoin tests (first_repeated number ports) column
KeepsKey (kind.Except tests) ports column = IsTiedFirst tests ports column
KeepsKey other ports column = HaveColumn column ports

-- the columns are there on each port
abbrev pub AreInPorts : List ℕ → List KeyedPort → Type 0
AreInPorts columns ports = AllByRecursion (λ (p : KeyedPort). AllByRecursion (λ k. k < p.width) columns) ports

-- the columns that a node keeps are there on its ports, which holds in each accepted plan
abbrev pub KeepsColumns : NodeKind → List KeyedPort → Type 0
KeepsColumns (kind.Project keep) ports = AreInPorts keep ports
KeepsColumns (kind.Group keys count sums least greatest) ports = AreInPorts keys ports
KeepsColumns other ports = Unit {0}

-- ---- keyed plans

-- the key column of the node at a place
abbrev pub column_at : List ℕ → ℕ → ℕ
column_at columns place = slice_index columns place

-- how many fields the rows of the node at a place have
abbrev pub width_at : List PlanNode → ℕ → ℕ
width_at nodes place = length (types_of (map node_of nodes) place)

-- the ports of a node after others
abbrev pub keyed_ports : List ℕ → List PlanNode → PlanNode → List KeyedPort
keyed_ports columns before node = map (λ place. record { column = column_at columns place; width = width_at before place }) node.inputs.items

-- each of the nodes keeps the key, after the earlier ones and those before it
abbrev pub AreKeyed : List ℕ → List PlanNode → List PlanNode → Type 0
AreKeyed columns before [] = Unit {0}
AreKeyed columns before (n ∷ nodes) = KeepsKey n.kind (keyed_ports columns before n) (column_at columns (length before)) × AreKeyed columns (before ++ n ∷ []) nodes

-- the sources among the nodes from a place on, as ports: the key column and the width of each, in plan order
abbrev pub source_ports : List ℕ → List PlanNode → ℕ → List KeyedPort
source_ports columns [] place = []
source_ports columns (n ∷ nodes) place =
    if is_source n.kind
    then record { column = column_at columns place; width = length n.types.items } ∷ source_ports columns nodes (place + 1)
    else source_ports columns nodes (place + 1)

-- the part of each source's table that these keys have, where the nodes have these key columns, by their places
abbrev pub source_parts : (Option Field → Bool) → List ℕ → List PlanNode → Tables → Tables
source_parts mine columns nodes sources = key_parts mine (source_ports columns nodes 0) sources

-- there is a table for each source, and each of its rows has as many fields as the source's types; no key column counts here
abbrev pub AreSourceTables : List PlanNode → Tables → Type 0
AreSourceTables nodes sources = FitPorts (source_ports [] nodes 0) sources

-- each key is in exactly one of the parts
abbrev pub AreShares : List (Option Field → Bool) → Type 0
AreShares shares = (key : Option Field) → count_by (λ (mine : Option Field → Bool). mine key) shares ≡ 1

-- the rows that the query over each of the parts has at a node, all together
abbrev pub shared_query : List (Option Field → Bool) → List ℕ → Tables → List PlanNode → ℕ → List Row
shared_query shares columns sources nodes place = flat_map (λ (mine : Option Field → Bool). table_at (query (source_parts mine columns nodes sources) nodes) place) shares
