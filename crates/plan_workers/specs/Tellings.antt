-- What is left of a plan's sources at the end, and what that says of them.
use Rattle.std.specs.Prelude.{ℕ, ◌≡◌, Bool, true, false, List, [], ◌∷◌, ◌++◌, length, slice_index_or, Option, None, Some, if◌then◌else◌}
use Rattle.std.specs.List.{All}
use Rattle.plan_workers.specs.Wents.{SourceWent}
use Rattle.cedr_guard.specs.declared.refusal.Refusal.{Refusal}
use Rattle.node_laws.specs.Lists.{Lists, list_at}
use Rattle.cedr_plan.specs.declared.plan.PlanNode.{PlanNode}
use Rattle.cedr_plan.specs.Places.{is_source, source_count}
use Rattle.cedr_worker.specs.declared.source.SourceEnd.{SourceEnd}
use Rattle.cedr_worker.specs.declared.stop.SourceStop.{SourceStop}
use Rattle.cedr_worker.specs.declared.stop.SourceStop.TheVariants as stop

-- ---- how one source stopped

-- the source that is handed back at its end
abbrev pub source_left_in : {S : Type 0} → SourceEnd S → S
source_left_in end = end.source

-- the first fault of its lines, where it has one
abbrev pub fault_of : SourceStop → Option Refusal
fault_of stop.Closed = None
fault_of (stop.Refused line fault) = Some (record { line = line; fault = fault })
fault_of stop.ReadFault = None
fault_of stop.OutOfMemory = None

-- the first fault of the lines of a source, by its end
abbrev pub refusal_in : {S : Type 0} → SourceEnd S → Option Refusal
refusal_in end = fault_of end.stop

-- it was read far enough to judge its lines: to its end, or to its first fault
abbrev pub IsJudged : SourceStop → Type 0
IsJudged stop.Closed = Unit {0}
IsJudged (stop.Refused line fault) = Unit {0}
IsJudged stop.ReadFault = ⊥
IsJudged stop.OutOfMemory = ⊥

-- the source stopped at a line that isn't accepted
abbrev pub is_faulty : SourceStop → Bool
is_faulty stop.Closed = false
is_faulty (stop.Refused line fault) = true
is_faulty stop.ReadFault = false
is_faulty stop.OutOfMemory = false

-- ---- the sources of a plan

-- The sources of a plan, each without a fault as it was found, and what is left of each. The lists are those that the nodes
-- gave.
pub record AreEnded {S : Type 0} (rest : S → Option (List ℕ)) (faults : S → ℕ) (nodes : List PlanNode) (sources : List S) (given : Lists) (ends : List (SourceEnd S)) : Type 0 where
  pub sources_count : length sources ≡ source_count nodes
  pub ends_count : length ends ≡ source_count nodes
  pub fresh : All (λ (s : S). faults s ≡ 0) sources
  pub went : (before after : List PlanNode) (n : PlanNode) → nodes ≡ before ++ n ∷ after → is_source n.kind ≡ true → (s : S) (e : SourceEnd S) → SourceWent rest faults n (slice_index_or sources (source_count before) s) (slice_index_or ends (source_count before) e) (list_at given (length before))

-- the lists of the sources, each at its node's place, and nothing of the other nodes
abbrev pub source_lists : List PlanNode → Lists → Lists
source_lists [] given = []
source_lists (n ∷ nodes) [] = [] ∷ source_lists nodes []
source_lists (n ∷ nodes) (g ∷ given) = (if is_source n.kind then g else []) ∷ source_lists nodes given

-- the faults of the sources, each at its node's place, and none of the other nodes
abbrev pub node_faults : List PlanNode → List (Option Refusal) → List (Option Refusal)
node_faults [] faults = []
node_faults (n ∷ nodes) [] = None ∷ node_faults nodes []
node_faults (n ∷ nodes) (f ∷ faults) = if is_source n.kind then f ∷ node_faults nodes faults else None ∷ node_faults nodes (f ∷ faults)
