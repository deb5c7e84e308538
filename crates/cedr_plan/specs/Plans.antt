-- Which bytes are a plan, and which fault the others have first.
use Rattle.std.specs.Prelude.{ℕ, ◌≡◌, ◌+◌, Bool, not, ◌||◌, List, [], ◌∷◌, ◌++◌, length, codes, nat_lt, if◌then◌else◌, Option, Some, None, is_some, option_map, unwrap_or, Result, Ok, Err}
use Rattle.std.specs.Option.{option_map_or}
use Rattle.std.specs.List.{slice_get}
use Rattle.std.specs.Str.{is_utf8}
use Rattle.serde_json.specs.Data.{Data}
use Rattle.serde_json.specs.Find.{get, as_array, as_object}
use Rattle.serde_json.specs.Read.{read}
use Rattle.cedr_plan.specs.Drawn.{Node, Drawn}
use Rattle.cedr_plan.specs.Places.{is_output}
use Rattle.cedr_plan.specs.Json.{as_whole, is_number, is_whole_within, has, values_of}
use Rattle.cedr_plan.specs.Nodes.{first_fault, node_fault, node_of_value, number_at}
use Rattle.cedr_plan.specs.Rules.{first_unused}
use Rattle.cedr_plan.specs.declared.fault.PlanKind.{PlanKind}
use Rattle.cedr_plan.specs.declared.fault.PlanKind.TheVariants as kind
use Rattle.cedr_plan.specs.declared.fault.PlanFault.{PlanFault}
use Rattle.cedr_plan.specs.declared.fault.PlanFault.TheVariants as fault

-- a fault, and the number of the node that has it: 0 for the document
pub record Refusal : Type 0 where
  pub kind : PlanKind
  pub node : ℕ

-- a refusal: this fault, of the node of this number
abbrev pub refused : {T : Type 0} → PlanKind → ℕ → Result T Refusal
refused kind node = Err (record { kind = kind; node = node })

-- the fault, if there is one, and what follows if there is none
abbrev pub unless_fault : {T : Type 0} → Option PlanKind → ℕ → Result T Refusal → Result T Refusal
unless_fault None node rest = rest
unless_fault (Some kind) node rest = refused kind node

-- this fault of a node, if there is such a node, and what follows if there is none
abbrev pub unless_node : {T : Type 0} → PlanKind → Option ℕ → Result T Refusal → Result T Refusal
unless_node kind None rest = rest
unless_node kind (Some node) rest = refused kind node

-- ---- the document

-- the newest version of the plan language
abbrev pub newest : ℕ
newest = 2

-- the number of a version, without a fraction or an exponent
abbrev pub is_version : Data → Bool
is_version d = is_whole_within 1 newest d

-- the version that the document states, and 0 where it states none
abbrev pub version_at : Data → ℕ
version_at d = number_at (codes "version") d

-- no object, or a member is missing or has the wrong kind
unfoldable pub lacks_part : Data → Bool
lacks_part d = not (is_some (as_object d)) || (not (has (codes "version") is_version d) || (not (has (codes "nodes") (λ nodes. is_some (as_array nodes)) d)
    || has (codes "edge") (λ edge. not (is_number edge)) d))

-- the values of the array that `nodes` is
abbrev pub node_values : Data → List Data
node_values d = values_of (get (codes "nodes") d)

-- the document has over 64 nodes
unfoldable pub has_too_many_nodes : Data → Bool
has_too_many_nodes d = nat_lt 64 (length (node_values d))

-- `edge` is there and isn't a whole number from 1 to 1,024
unfoldable pub has_bad_edge : Data → Bool
has_bad_edge d = has (codes "edge") (λ edge. not (is_whole_within 1 1024 edge)) d

-- the first fault of the document, in the order of the numbers
abbrev pub document_fault : Data → Option PlanKind
document_fault d = first_fault ((lacks_part d, kind.MissingPart) ∷ (has_too_many_nodes d, kind.TooMany) ∷ (has_bad_edge d, kind.BadNumber) ∷ [])

-- how many messages an edge holds
abbrev pub edge_of : Data → ℕ
edge_of d = option_map_or (λ edge. unwrap_or (as_whole edge) 64) (get (codes "edge") d) 64

-- ---- the nodes

-- the earlier nodes, and after them those that the values are in this version, or the first fault
abbrev pub nodes_from : ℕ → List Node → List Data → Result (List Node) Refusal
nodes_from version earlier [] = Ok earlier
nodes_from version earlier (d ∷ ds) = unless_fault (node_fault version earlier d) (length earlier + 1) (nodes_from version (earlier ++ node_of_value version earlier d ∷ []) ds)

-- the numbers of the outputs, where the first node has this number
abbrev pub outputs_from : ℕ → List Node → List ℕ
outputs_from number [] = []
outputs_from number (node ∷ nodes) = if is_output node.kind then number ∷ outputs_from (number + 1) nodes else outputs_from (number + 1) nodes

-- where there isn't exactly one output: the second one, or 0 where there is none
abbrev pub excess_output : List ℕ → Option ℕ
excess_output [] = Some 0
excess_output (first ∷ more) = slice_get more 0

-- the plan of these nodes
abbrev pub plan_with : ℕ → List Node → Result Drawn Refusal
plan_with edge nodes = unless_node kind.NotOneOutput (excess_output (outputs_from 1 nodes))
    (unless_node kind.Unused (first_unused 0 nodes) (Ok (record { nodes = nodes; edge = edge })))

-- the plan of the nodes that were read, or the fault that was found in them
abbrev pub plan_of_nodes : ℕ → Result (List Node) Refusal → Result Drawn Refusal
plan_of_nodes edge (Ok nodes) = plan_with edge nodes
plan_of_nodes edge (Err refusal) = Err refusal

-- ---- the bytes

-- the plan that a JSON value describes, or its first fault: the document's before those of its nodes
abbrev pub plan_of_value : Data → Result Drawn Refusal
plan_of_value d = unless_fault (document_fault d) 0 (plan_of_nodes (edge_of d) (nodes_from (version_at d) [] (node_values d)))

-- the plan that the JSON value describes, or the fault that the bytes aren't JSON
abbrev pub plan_of_json : Option Data → Result Drawn Refusal
plan_of_json None = refused kind.BadJson 0
plan_of_json (Some d) = plan_of_value d

-- the JSON value that the bytes are: UTF-8 in which arrays and objects nest at most 127 deep
abbrev pub json_of : List ℕ → Option Data
json_of bytes = if is_utf8 bytes then read bytes else None

-- the version that the document in the bytes states, 0 where it states none, and nothing where the bytes aren't JSON
abbrev pub stated_version : List ℕ → Option ℕ
stated_version bytes = option_map version_at (json_of bytes)

-- the most bytes that a plan may have
abbrev pub longest : ℕ
longest = 1048576

-- the plan that the bytes describe, or their first fault
unfoldable pub plan_of : List ℕ → Result Drawn Refusal
plan_of bytes = if nat_lt longest (length bytes) then refused kind.TooLong 0 else plan_of_json (json_of bytes)

-- the fault is the one that was found. Want of memory says nothing of it
abbrev pub IsFaultIn : {T : Type 0} → Result T Refusal → PlanFault → Type 0
IsFaultIn found (fault.Refused kind node) = found ≡ refused kind node
IsFaultIn found fault.OutOfMemory = Unit {0}

-- the fault is the first one of these bytes. Want of memory says nothing of it
abbrev pub IsFaultOf : List ℕ → PlanFault → Type 0
IsFaultOf bytes fault = IsFaultIn (plan_of bytes) fault
