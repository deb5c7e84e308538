-- What is remembered of a source's lines, where events that are over are forgotten.
use Rattle.std.specs.Prelude.{ℕ, ◌≡◌, ◌<◌, Bool, not, List, [], ◌∷◌, ◌++◌, All, nat_lt, if◌then◌else◌}
use Rattle.std.specs.List.{filter}
use Rattle.cedr_base.specs.declared.row.Row.{Row}
use Rattle.cedr_base.specs.declared.change.Message.{Message}
use Rattle.cedr_base.specs.Messages.{mark_of, IsOpen, IsLegal, IsTableOf}
use Rattle.cedr_text.specs.declared.event_line.EventLine.{EventLine}
use Rattle.cedr_text.specs.declared.event_line.EventLine.TheVariants.{Insert, Retract, Revise, Promise}
use Rattle.cedr_guard.specs.declared.state.EventState.{EventState}
use Rattle.cedr_guard.specs.History.{history_of}
use Rattle.cedr_guard.specs.Judging.{guarantee_of, AreAccepted}
use Rattle.cedr_guard.specs.Spelt.{State, state_of, lines_of}

-- an event is over: it ends below the guarantee
abbrev pub event_is_over : ℕ → EventState → Bool
event_is_over mark e = nat_lt e.end mark

-- the events that aren't
abbrev pub left_events : ℕ → List EventState → List EventState
left_events mark events = filter (λ (e : EventState). not (event_is_over mark e)) events

-- a state without the events that are over
abbrev pub without_over : State → State
without_over state = record { mark = state.mark; events = left_events state.mark state.events }

-- lines that spell what is remembered of others
abbrev pub remembered_lines : List EventLine → List EventLine
remembered_lines lines = lines_of (without_over (state_of lines))

-- The lines that are kept where one more is accepted. After a guarantee that rose the events that are over are forgotten:
-- behind any other line none is over that wasn't before.
abbrev pub kept_with : List EventLine → EventLine → List EventLine
kept_with kept (Insert id row) = kept ++ Insert id row ∷ []
kept_with kept (Retract id end) = kept ++ Retract id end ∷ []
kept_with kept (Revise id row) = kept ++ Revise id row ∷ []
kept_with kept (Promise time) = if nat_lt (guarantee_of kept) time then remembered_lines (kept ++ Promise time ∷ []) else kept ++ Promise time ∷ []

-- lines that come to what is remembered of others: by them alone later lines are judged, and become messages
pub record RemembersLines (lines kept : List EventLine) : Type 0 where
  pub accepted : AreAccepted kept
  pub state : state_of kept ≡ without_over (state_of lines)

-- All messages that a source gave, where these lines are remembered, and these rows are of events that were forgotten: the
-- table is the history of what is remembered, and these rows.
pub record Continues (given : List Message) (kept : List EventLine) (gone : List Row) : Type 0 where
  pub legal : IsLegal given
  pub goes_on : IsOpen given
  pub mark : mark_of given ≡ guarantee_of kept
  pub table : IsTableOf given (history_of kept ++ gone)

-- each row ends below a time
abbrev pub EndBelow : ℕ → List Row → Type 0
EndBelow time rows = All (λ (r : Row). r.end < time) rows
