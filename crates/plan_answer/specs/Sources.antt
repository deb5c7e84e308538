-- The sources of a plan: their files, and what these hold.
use Rattle.std.specs.Prelude.{ℕ, ◌≡◌, ◌+◌, List, [], ◌∷◌, ◌++◌, take, true, false, Option, None, Some, Result, Ok, Err, if◌then◌else◌}
use Rattle.cedr_base.specs.declared.change.Message.{Message}
use Rattle.cedr_guard.specs.declared.refusal.Refusal.{Refusal}
use Rattle.cedr_guard.specs.Sources.{judged, messages_of}
use Rattle.node_laws.specs.Lists.{Lists}
use Rattle.cedr_plan.specs.declared.plan.NodeKind.{NodeKind}
use Rattle.cedr_plan.specs.declared.plan.NodeKind.TheVariants as kind
use Rattle.cedr_plan.specs.declared.plan.PlanNode.{PlanNode}
use Rattle.cedr_source.specs.declared.fault.Unread.{Unread}
use Rattle.cedr_source.specs.declared.fault.Unread.TheVariants as unread
use Rattle.cedr_text.specs.declared.event_line.Shape.{Shape}
use Rattle.cedr_text.specs.Shapes.{ShapeHasTypes}
use Rattle.cedr_plan.specs.Places.{is_source}
use Rattle.plan_answer.specs.declared.faulty.FaultySource.{FaultySource}

-- ---- names

-- the file that a source reads
abbrev pub file_of : NodeKind → List ℕ
file_of (kind.Source file) = file
file_of other = []

-- the files of a node: a source has one
abbrev pub files_of : PlanNode → List (List ℕ)
files_of node = if is_source node.kind then file_of node.kind ∷ [] else []

-- the files of the sources, in the order of the plan
abbrev pub source_files : List PlanNode → List (List ℕ)
source_files [] = []
source_files (n ∷ nodes) = files_of n ++ source_files nodes

-- of these names the first ones were asked for, each once and in this order
pub record AsksFirst (old new names : List (List ℕ)) : Type 0 where
  pub count : ℕ
  pub added : new ≡ old ++ take count names

-- the names are asked for, unless memory ran out before
abbrev pub AsksSource : {T : Type 0} → Result T Unread → List (List ℕ) → List (List ℕ) → List (List ℕ) → Type 0
AsksSource (Ok done) old new names = new ≡ old ++ names
AsksSource (Err (unread.Refused refusal)) old new names = new ≡ old ++ names
AsksSource (Err unread.Failed) old new names = new ≡ old ++ names
AsksSource (Err unread.OutOfMemory) old new names = AsksFirst old new names

-- it is known what these files hold
abbrev pub AreTold : (List ℕ → Option (List ℕ)) → (List ℕ → List ℕ) → List (List ℕ) → Type 0
AreTold content told [] = Unit {0}
AreTold content told (name ∷ names) = (content name ≡ Some (told name)) × AreTold content told names

-- ---- what was read

-- What a node gave: a source its first fault, or without one all its messages; any other node nothing.
pub record HasGiven (told : List ℕ → List ℕ) (node : PlanNode) (ms : List Message) (fault : Option Refusal) : Type 0 where
  pub source : is_source node.kind ≡ true → (shape : Shape) × ShapeHasTypes shape node.types.items × ((judged shape (told (file_of node.kind))).fault ≡ fault) × (fault ≡ None → ms ≡ messages_of shape (told (file_of node.kind)))
  pub other : is_source node.kind ≡ false → (ms ≡ []) × (fault ≡ None)

-- the same of each of some nodes, in order
abbrev pub AllHaveGiven : (List ℕ → List ℕ) → List PlanNode → Lists → List (Option Refusal) → Type 0
AllHaveGiven told [] [] [] = Unit {0}
AllHaveGiven told [] (l ∷ ls) faults = ⊥
AllHaveGiven told [] [] (f ∷ faults) = ⊥
AllHaveGiven told (n ∷ nodes) [] faults = ⊥
AllHaveGiven told (n ∷ nodes) (l ∷ ls) [] = ⊥
AllHaveGiven told (n ∷ nodes) (l ∷ ls) (f ∷ faults) = HasGiven told n l f × AllHaveGiven told nodes ls faults

-- the source at a place, where it has a fault
abbrev pub fault_here : ℕ → Option Refusal → List FaultySource
fault_here place None = []
fault_here place (Some refusal) = record { place = place; refusal = refusal } ∷ []

-- the faulty sources among the nodes from a place on, by the first fault of each node
abbrev pub faulty_from : ℕ → List (Option Refusal) → List FaultySource
faulty_from place [] = []
faulty_from place (f ∷ faults) = fault_here place f ++ faulty_from (place + 1) faults

-- what the nodes gave, and which sources are faulty
pub record AreRead (told : List ℕ → List ℕ) (nodes : List PlanNode) (left : Lists) (faulty : List FaultySource) : Type 0 where
  pub faults : List (Option Refusal)
  pub given : AllHaveGiven told nodes left faults
  pub faulty_are : faulty ≡ faulty_from 0 faults
