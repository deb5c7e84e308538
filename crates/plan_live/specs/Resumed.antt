-- Scripts that go on from states of a plan's sources.
use Rattle.std.specs.Prelude.{ℕ, ◌≡◌, List, [], ◌∷◌, ◌++◌, length, map, if◌then◌else◌, All, ◌⊎◌}
use Rattle.cedr_base.specs.Bytes.{line_feed}
use Rattle.cedr_guard.specs.Spelt.{State, state_in, state_of, lines_of, IsFit}
use Rattle.cedr_guard.specs.declared.state.SourceState.{SourceState}
use Rattle.cedr_plan.specs.declared.plan.PlanNode.{PlanNode}
use Rattle.cedr_plan.specs.Places.{is_source, source_count}
use Rattle.plan_live.specs.Scripts.{Accepted}
use Rattle.plan_live.specs.SoFar.{source_lines}

-- the states of the sources after these lines, in the order of the plan
abbrev pub states_so_far : List PlanNode → Accepted → List State
states_so_far nodes lines = map state_of (source_lines nodes lines)

-- the lines that states of the sources spell, each at the place of its source
abbrev pub lines_from : List PlanNode → List State → Accepted
lines_from [] states = []
lines_from (n ∷ nodes) [] = [] ∷ lines_from nodes []
lines_from (n ∷ nodes) (s ∷ states) = if is_source n.kind then lines_of s ∷ lines_from nodes states else [] ∷ lines_from nodes (s ∷ states)

-- what values of the program stand for
abbrev pub states_in : List SourceState → List State
states_in states = map state_in states

-- one state for each source, each of them fit
pub record AreStates (nodes : List PlanNode) (states : List SourceState) : Type 0 where
  pub count : length states ≡ source_count nodes
  pub fit : All (λ (s : SourceState). IsFit (state_in s)) states

-- the bytes are empty or end with a line feed
pub record EndsLine (bytes : List ℕ) : Type 0 where
  pub ends : (bytes ≡ []) ⊎ ((before : List ℕ) × (bytes ≡ before ++ line_feed ∷ []))
