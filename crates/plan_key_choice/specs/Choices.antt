-- Which columns a plan can be answered by, key by key.
use Rattle.std.specs.Prelude.{ℕ, ◌≡◌, ◌-◌, ◌<◌, ◌≤◌, ◌==◌, Bool, List, [], length, count_by, IfSome, take}
use Rattle.std.specs.List.{slice_get, list_any}
use Rattle.cedr_plan.specs.declared.plan.PlanNode.{PlanNode}
use Rattle.plan_keys.specs.Keys.{AreKeyed, KeepsKey, keyed_ports, column_at, width_at}
use Rattle.plan_key_choice.specs.declared.fault.KeyFault.{KeyFault}
use Rattle.plan_key_choice.specs.declared.fault.KeyFault.TheVariants as key_fault

-- each node's column is one of its columns, or 0 where its rows have no field
abbrev pub AreInWidths : List ℕ → List PlanNode → Type 0
AreInWidths columns nodes = (place : ℕ) → place < length nodes → column_at columns place ≤ width_at nodes place - 1

-- a column of each node, by its place, that all nodes keep
pub record IsKeyChoice (columns : List ℕ) (nodes : List PlanNode) : Type 0 where
  pub count : length columns ≡ length nodes
  pub keyed : AreKeyed columns [] nodes
  pub within : AreInWidths columns nodes

-- no columns are kept by all nodes, and the node that is told is one of them
pub record IsUnkeyed (nodes : List PlanNode) (node : ℕ) : Type 0 where
  pub none : (columns : List ℕ) → AreKeyed columns [] nodes → ⊥
  pub told : node < length nodes

-- a node reads the one at this place
abbrev pub reads : ℕ → PlanNode → Bool
reads place node = list_any (λ (input : ℕ). input == place) node.inputs.items

-- several nodes read the one at a place
pub record IsShared (nodes : List PlanNode) : Type 0 where
  pub place : ℕ
  pub several : 1 < count_by (reads place) nodes

-- There is no choice of columns; or the search for one was given up, which is so only where several nodes read one; or memory
-- ran out.
abbrev pub IsKeyFaultOf : List PlanNode → KeyFault → Type 0
IsKeyFaultOf nodes (key_fault.Unkeyed node) = IsUnkeyed nodes node
IsKeyFaultOf nodes key_fault.Undecided = IsShared nodes
IsKeyFaultOf nodes key_fault.OutOfMemory = Unit {0}

-- the node at a place keeps the key, behind those before it
abbrev pub KeepsKeyAt : List ℕ → List PlanNode → ℕ → Type 0
KeepsKeyAt columns nodes place = IfSome (slice_get nodes place) (λ (n : PlanNode). KeepsKey n.kind (keyed_ports columns (take place nodes) n) (column_at columns place))
