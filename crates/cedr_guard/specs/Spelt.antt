-- The state of a source's accepted lines, and lines that lead to a state.
use Rattle.std.specs.Prelude.{ℕ, ◌≡◌, ◌<◌, ◌≤◌, ◌+◌, ◌==◌, List, [], ◌∷◌, ◌++◌, map, nat_lt, Option, Some, None, unwrap_or, if◌then◌else◌, All, AllPairs}
use Rattle.cedr_base.specs.declared.interval.Interval.{Interval}
use Rattle.cedr_base.specs.declared.row.Row.{Row}
use Rattle.cedr_base.specs.declared.time.TheConstants.{FOREVER}
use Rattle.cedr_text.specs.declared.event_line.EventLine.{EventLine}
use Rattle.cedr_text.specs.declared.event_line.EventLine.TheVariants.{Insert, Retract, Revise, Promise}
use Rattle.cedr_guard.specs.declared.state.EventState.{EventState}
use Rattle.cedr_guard.specs.declared.state.SourceState.{SourceState}
use Rattle.cedr_guard.specs.Judging.{guarantee_of, row_after, event_with, row_lives}
use Rattle.cedr_guard.specs.States.{as_it_is}

-- ---- the state of lines

-- the guarantee, and the events with ascending ids
pub record State : Type 0 where
  pub mark : ℕ
  pub events : List EventState

-- what a value of the program stands for
abbrev pub state_in : SourceState → State
state_in state = record { mark = state.mark; events = state.events.items }

-- the row of an event, which is empty where the event is withdrawn
abbrev pub state_row : EventState → Row
state_row e = record { end = e.end; begin = e.begin; payload = e.payload }

-- when an event is valid
abbrev pub event_interval : EventState → Interval
event_interval e = record { begin = e.begin; end = e.end }

-- an event with this row
abbrev pub state_with : ℕ → Row → EventState
state_with id row = record { id = id; begin = row.begin; end = row.end; payload = row.payload }

-- the events that lines insert, as they are after the lines
abbrev pub events_among : List EventLine → List EventState
events_among [] = []
events_among (Insert id row ∷ lines) = state_with id (as_it_is (unwrap_or (event_with id lines) (row_after id row lines))) ∷ events_among lines
events_among (Retract id end ∷ lines) = events_among lines
events_among (Revise id row ∷ lines) = events_among lines
events_among (Promise time ∷ lines) = events_among lines

-- an event at its place among events with ascending ids
abbrev pub put_event : EventState → List EventState → List EventState
put_event e [] = e ∷ []
put_event e (first ∷ events) = if nat_lt first.id e.id then first ∷ put_event e events else e ∷ first ∷ events

-- events with ascending ids
abbrev pub by_id : List EventState → List EventState
by_id [] = []
by_id (e ∷ events) = put_event e (by_id events)

-- the state of accepted lines
abbrev pub state_of : List EventLine → State
state_of lines = record { mark = guarantee_of lines; events = by_id (events_among lines) }

-- the row of the event with this id
abbrev pub row_of_id : ℕ → List EventState → Option Row
row_of_id id [] = None
row_of_id id (e ∷ events) = if e.id == id then Some (state_row e) else row_of_id id events

-- ---- states that accepted lines may have

-- an event whose begin is finite and not above its end
pub record IsState (e : EventState) : Type 0 where
  pub begins : e.begin < FOREVER
  pub lasts : e.begin ≤ e.end
  pub ends : e.end ≤ FOREVER

-- ids ascend, each event's times are in order, and the guarantee is a time
pub record IsFit (state : State) : Type 0 where
  pub ascend : AllPairs (λ (e : EventState) (later : EventState). e.id < later.id) state.events
  pub sound : All IsState state.events
  pub time : state.mark ≤ FOREVER

-- withdrawn events have no fields
abbrev pub IsBareEvent : EventState → Type 0
IsBareEvent e = e.end ≤ e.begin → e.payload ≡ []

-- each withdrawn event of a state has none
abbrev pub HasBare : State → Type 0
HasBare state = All IsBareEvent state.events

-- ---- lines that lead to a state

-- a row before it was withdrawn, if it was
abbrev pub inserted_row : Row → Row
inserted_row row = if row_lives row then row else record row { end = row.begin + 1 }

-- the insertions of events
abbrev pub inserts : List EventState → List EventLine
inserts events = map (λ (e : EventState). Insert e.id (inserted_row (state_row e))) events

-- the retractions of the withdrawn ones
abbrev pub retracts : List EventState → List EventLine
retracts [] = []
retracts (e ∷ events) = if row_lives (state_row e) then retracts events else Retract e.id e.begin ∷ retracts events

-- lines of a state: insertions, then retractions, then the guarantee
abbrev pub lines_of : State → List EventLine
lines_of state = (inserts state.events ++ retracts state.events) ++ Promise state.mark ∷ []
