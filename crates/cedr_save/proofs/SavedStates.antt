-- The state of accepted lines may be saved, where each line has the source's types.
use Rattle.std.proofs.Common.{ℕ, zero, suc, List, [], ◌∷◌, Bool, true, false, cond, eqb, Option, None, Some, IfSome, sym, ◌∙◌, subst, arith}
use Rattle.std.specs.Prelude.{All, nat_lt, unwrap_or}
use Rattle.cedr_base.specs.declared.row.Row.{Row}
use Rattle.cedr_base.specs.declared.field.FieldType.{FieldType}
use Rattle.cedr_text.specs.declared.event_line.EventLine.{EventLine}
use Rattle.cedr_text.specs.declared.event_line.EventLine.TheVariants.{Insert, Retract, Revise, Promise}
use Rattle.cedr_guard.specs.declared.state.EventState.{EventState}
use Rattle.cedr_guard.specs.Judging.{row_after, event_with, AreAccepted}
use Rattle.cedr_guard.specs.States.{as_it_is}
use Rattle.cedr_guard.specs.Spelt.{state_with, events_among, put_event, by_id, state_of}
use Rattle.cedr_guard.proofs.EventLemmas.{row_now}
use Rattle.cedr_guard.proofs.SpeltLemmas.{fit_state}
use Rattle.cedr_guard.proofs.StateLemmas.{lives_as, as_living}
use Rattle.cedr_save.specs.Checkpoints.{Source, AreTyped, HasId, HasFields, IsSaved}
use Rattle.cedr_save.proofs.LineReadings.{IsTypedLine}

-- each of the lines has these types
abbrev pub AreTypedLines : List FieldType → List EventLine → Type 0
AreTypedLines types [] = Unit {0}
AreTypedLines types (line ∷ lines) = IsTypedLine types line × AreTypedLines types lines

-- ---- events by ascending ids

-- this holds of each event
abbrev pub EachEvent : (EventState → Type 0) → List EventState → Type 0
EachEvent Holds [] = Unit {0}
EachEvent Holds (e ∷ es) = Holds e × EachEvent Holds es

each_put_at : (Holds : EventState → Type 0) (e x : EventState) (es : List EventState) (b : Bool) → Holds e → Holds x → EachEvent Holds es → EachEvent Holds (put_event e es) → EachEvent Holds (cond b (x ∷ put_event e es) (e ∷ x ∷ es))
each_put_at Holds e x es true one other each put = (other, put)
each_put_at Holds e x es false one other each put = (one, (other, each))

each_put : (Holds : EventState → Type 0) (e : EventState) (es : List EventState) → Holds e → EachEvent Holds es → EachEvent Holds (put_event e es)
each_put Holds e [] one each = (one, tt)
each_put Holds e (x ∷ es) one each = each_put_at Holds e x es (nat_lt x.id e.id) one each.0 each.1 (each_put Holds e es one each.1)

-- what holds of each event holds of each once they are in order
pub each_by_id : (Holds : EventState → Type 0) (es : List EventState) → EachEvent Holds es → EachEvent Holds (by_id es)
each_by_id Holds [] each = tt
each_by_id Holds (e ∷ es) each = each_put Holds e (by_id es) each.0 (each_by_id Holds es each.1)

all_events : (Holds : EventState → Type 0) (es : List EventState) → EachEvent Holds es → All Holds es
all_events Holds [] each k d within = absurd (omega arith)
all_events Holds (e ∷ es) each zero d within = each.0
all_events Holds (e ∷ es) each (suc k) d within = all_events Holds es each.1 k d (omega arith)

-- ---- the fields of events

module _ (types : List FieldType) where
  abbrev HasTypes : Row → Type 0
  HasTypes row = AreTyped types row.payload

  now_typed : (event : Option Row) (row : Row) → IfSome event HasTypes → HasTypes row → HasTypes (unwrap_or event row)
  now_typed None row is are = are
  now_typed (Some r) row is are = is

  version_typed : (b : Bool) (event : Option Row) (row : Row) → IfSome event HasTypes → HasTypes row → IfSome (cond b (Some (unwrap_or event row)) event) HasTypes
  version_typed true event row is are = now_typed event row is are
  version_typed false event row is are = is

  -- the event of an id has the fields of one of the lines
  event_typed : (id : ℕ) (lines : List EventLine) → AreTypedLines types lines → IfSome (event_with id lines) HasTypes
  event_typed id [] are = tt
  event_typed id (Insert other row ∷ lines) are = version_typed (eqb other id) (event_with id lines) (row_after id row lines) (event_typed id lines are.1) are.0.1
  event_typed id (Retract other end ∷ lines) are = event_typed id lines are.1
  event_typed id (Revise other row ∷ lines) are = version_typed (eqb other id) (event_with id lines) (row_after id row lines) (event_typed id lines are.1) are.0
  event_typed id (Promise time ∷ lines) are = event_typed id lines are.1

  -- an event with an id of 64 bits and the fields that a source may have given
  abbrev IsTypedEvent : EventState → Type 0
  IsTypedEvent e = HasId e × HasFields types e

  fields_as : (id : ℕ) (row : Row) → HasTypes row → HasFields types (state_with id (as_it_is row))
  fields_as id row are living = subst HasTypes (sym (as_living row (sym (lives_as row) ∙ living))) are

  events_typed : (lines : List EventLine) → AreTypedLines types lines → EachEvent IsTypedEvent (events_among lines)
  events_typed [] are = tt
  events_typed (Insert id row ∷ lines) are =
      ((are.0.0, fields_as id (row_now id row lines) (now_typed (event_with id lines) (row_after id row lines) (event_typed id lines are.1) are.0.1)), events_typed lines are.1)
  events_typed (Retract id end ∷ lines) are = events_typed lines are.1
  events_typed (Revise id row ∷ lines) are = events_typed lines are.1
  events_typed (Promise time ∷ lines) are = events_typed lines are.1

-- the state of such lines may be saved
pub saved_state : (source : Source) (lines : List EventLine) → AreAccepted lines → AreTypedLines source.types lines → IsSaved source (state_of lines)
saved_state source lines accepted are =
    let all = all_events (IsTypedEvent source.types) (by_id (events_among lines)) (each_by_id (IsTypedEvent source.types) (events_among lines) (events_typed source.types lines are)) in
    record { fit = (fit_state lines accepted).0; ids = λ k d within. (all k d within).0; fields = λ k d within. (all k d within).1 }
