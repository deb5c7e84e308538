-- What a reader stands for that has taken some lines of a checkpoint.
use Rattle.std.specs.Prelude.{ℕ, ◌≡◌, ◌<◌, ◌≤◌, ◌+◌, Bool, true, false, List, [], ◌∷◌, ◌++◌, length, map, All, drop, slice_index_or, Result, Ok, Err}
use Rattle.cedr_text.specs.Lines.{has_line_feed}
use Rattle.cedr_save.specs.declared.fault.CheckpointFault.{CheckpointFault}
use Rattle.cedr_save.specs.declared.fault.CheckpointFault.TheVariants as fault
use Rattle.cedr_save.specs.Refusals.{IsBadLine}
use Rattle.cedr_text.specs.Shapes.{ShapeHasTypes}
use Rattle.cedr_guard.specs.Spelt.{State, state_in, HasBare}
use Rattle.cedr_plan.specs.declared.plan.PlanNode.{PlanNode}
use Rattle.cedr_save.specs.declared.states.Spot.{Spot}
use Rattle.cedr_save.specs.declared.states.Spot.TheVariants.{Head, Begun, InSource, Ended}
use Rattle.cedr_save.specs.declared.states.StateReader.{StateReader}
use Rattle.cedr_save.specs.Checkpoints.{Source, plan_sources, IsSaved, AreSaved, event_line, source_line, states_lines, head_line, checkpoint_lines, checkpoint_text}

-- the state of the source whose lines are read
abbrev pub open_state : StateReader → State
open_state reader = record { mark = reader.mark; events = reader.events.items }

-- the states of the sources before it
abbrev pub read_states : StateReader → List State
read_states reader = map state_in reader.states.items

-- the sources behind it
abbrev pub other_sources : StateReader → List PlanNode → List Source
other_sources reader nodes = plan_sources (drop reader.next nodes)

-- no source's line was taken
pub record HasNoSource (reader : StateReader) (nodes : List PlanNode) : Type 0 where
  pub next : reader.next ≡ 0
  pub states : reader.states.items ≡ []
  pub events : reader.events.items ≡ []

-- the lines of some sources were taken, and some of one more
pub record IsInSource (reader : StateReader) (nodes : List PlanNode) (before : List (List ℕ)) : Type 0 where
  pub front : List Source
  pub source : Source
  pub sources : plan_sources nodes ≡ front ++ source ∷ other_sources reader nodes
  pub within : reader.next ≤ length nodes
  pub saved : AreSaved front (read_states reader)
  pub bare : All HasBare (read_states reader)
  pub shape : ShapeHasTypes reader.shape source.types
  pub open_saved : IsSaved source (open_state reader)
  pub open_bare : HasBare (open_state reader)
  pub lines : before ≡ head_line ∷ (states_lines front (read_states reader) ++ (source_line source.name reader.mark ∷ map event_line reader.events.items))

-- all lines were taken
pub record IsEnded (reader : StateReader) (nodes : List PlanNode) (before : List (List ℕ)) : Type 0 where
  pub saved : AreSaved (plan_sources nodes) (read_states reader)
  pub bare : All HasBare (read_states reader)
  pub lines : before ≡ checkpoint_lines (plan_sources nodes) (read_states reader)

-- the reader at this spot has taken these lines
abbrev pub StandsAtSpot : Spot → StateReader → List PlanNode → List (List ℕ) → Type 0
StandsAtSpot Head reader nodes before = (before ≡ []) × HasNoSource reader nodes
StandsAtSpot Begun reader nodes before = (before ≡ head_line ∷ []) × HasNoSource reader nodes
StandsAtSpot InSource reader nodes before = IsInSource reader nodes before
StandsAtSpot Ended reader nodes before = IsEnded reader nodes before

-- the reader has taken these lines
abbrev pub Stands : StateReader → List PlanNode → List (List ℕ) → Type 0
Stands reader nodes before = StandsAtSpot reader.spot reader nodes before

-- the reader is behind the first line, or in a source, so that the line of another source or the last one may come
abbrev pub CanCloseAt : Spot → StateReader → List PlanNode → List (List ℕ) → Type 0
CanCloseAt Head reader nodes before = ⊥
CanCloseAt Begun reader nodes before = (before ≡ head_line ∷ []) × HasNoSource reader nodes
CanCloseAt InSource reader nodes before = IsInSource reader nodes before
CanCloseAt Ended reader nodes before = ⊥

abbrev pub CanClose : StateReader → List PlanNode → List (List ℕ) → Type 0
CanClose reader nodes before = CanCloseAt reader.spot reader nodes before

-- the reader is behind the last line
abbrev pub is_ended_spot : Spot → Bool
is_ended_spot Head = false
is_ended_spot Begun = false
is_ended_spot InSource = false
is_ended_spot Ended = true

-- the first source, from a place on, stands here
pub record IsPlaceOfNext (nodes : List PlanNode) (from place : ℕ) : Type 0 where
  pub low : from ≤ place
  pub within : place < length nodes
  pub sources : (node : PlanNode) → plan_sources (drop from nodes) ≡ record { name = (slice_index_or nodes place node).name; types = (slice_index_or nodes place node).types.items } ∷ plan_sources (drop (place + 1) nodes)

-- all but the states and the events stay
pub record KeepsRest (old new : StateReader) : Type 0 where
  pub spot : new.spot ≡ old.spot
  pub next : new.next ≡ old.next
  pub shape : new.shape ≡ old.shape
  pub mark : new.mark ≡ old.mark

-- the state of the source that was read stands behind the others, and no event is left
pub record ClosesOne (old new : StateReader) : Type 0 where
  pub rest : KeepsRest old new
  pub states : read_states new ≡ read_states old ++ open_state old ∷ []
  pub events : new.events.items ≡ []

-- where a source was read it is closed, and else nothing changes
abbrev pub ClosesSource : Spot → StateReader → StateReader → Type 0
ClosesSource Head old new = new ≡ old
ClosesSource Begun old new = new ≡ old
ClosesSource InSource old new = ClosesOne old new
ClosesSource Ended old new = new ≡ old

-- no name has a line feed
abbrev pub AreNamed : List Source → Type 0
AreNamed [] = Unit {0}
AreNamed (source ∷ sources) = (has_line_feed source.name ≡ false) × AreNamed sources

-- the states that bytes spell were read, or there is a bad line
abbrev pub ReadsLines : Result (Unit {0}) CheckpointFault → StateReader → List PlanNode → List ℕ → Type 0
ReadsLines (Ok done) reader nodes bytes = AreSaved (plan_sources nodes) (read_states reader) × All HasBare (read_states reader) × (bytes ≡ checkpoint_text (plan_sources nodes) (read_states reader))
ReadsLines (Err (fault.BadLine line)) reader nodes bytes = IsBadLine (plan_sources nodes) bytes line
ReadsLines (Err fault.OutOfMemory) reader nodes bytes = Unit {0}
