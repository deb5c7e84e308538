-- How a network comes to states of its sources.
use Rattle.std.specs.Prelude.{ℕ, ◌≡◌, ◌<◌, ◌≤◌, List, [], ◌∷◌, map, if◌then◌else◌}
use Rattle.cedr_base.specs.declared.change.Change.TheVariants.{Add, Cut}
use Rattle.cedr_base.specs.declared.change.Message.{Message}
use Rattle.cedr_base.specs.declared.change.Message.TheVariants as message
use Rattle.cedr_guard.specs.Judging.{row_lives}
use Rattle.cedr_guard.specs.Spelt.{State, state_row, inserted_row}
use Rattle.cedr_guard.specs.declared.state.EventState.{EventState}
use Rattle.cedr_plan.specs.declared.plan.PlanNode.{PlanNode}
use Rattle.plan_live.specs.Scripts.{Accepted, lines_at}
use Rattle.plan_live.specs.Resumed.{lines_from}

-- the messages of the insertions that events spell
abbrev pub insertions : List EventState → List Message
insertions events = map (λ (e : EventState). message.Change (Add (inserted_row (state_row e)))) events

-- and of the retractions of those that are withdrawn
abbrev pub withdrawals : List EventState → List Message
withdrawals [] = []
withdrawals (e ∷ events) = if row_lives (state_row e) then withdrawals events else message.Change (Cut (inserted_row (state_row e)) e.begin) ∷ withdrawals events

-- the sources at the first places have come to the lines of their states, and the others have no line
pub record IsRestoredTo (nodes : List PlanNode) (states : List State) (count : ℕ) (before : Accepted) : Type 0 where
  pub done : (k : ℕ) → k < count → lines_at before k ≡ lines_at (lines_from nodes states) k
  pub left : (k : ℕ) → count ≤ k → lines_at before k ≡ []
