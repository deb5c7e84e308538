-- What a judge keeps of the lines that it accepted.
use Rattle.std.specs.Prelude.{ℕ, ◌≡◌, ◌==◌, suc, List, [], ◌∷◌, map, slice_index_or, if◌then◌else◌, Option, None, Some, option_map, Result, Ok, Err}
use Rattle.std.specs.Option.{option_or}
use Rattle.std.specs.Ordering.{nat_cmp}
use Rattle.std.specs.BTreeMap.{get}
use Rattle.cedr_base.specs.declared.row.Row.{Row}
use Rattle.cedr_base.specs.declared.field.Field.{Field}
use Rattle.cedr_text.specs.declared.event_line.EventLine.{EventLine}
use Rattle.cedr_text.specs.declared.event_line.EventLine.TheVariants.{Insert, Retract, Revise, Promise}
use Rattle.cedr_text.specs.declared.fault.LineFault.{LineFault}
use Rattle.cedr_guard.specs.declared.fault.GuardFault.{GuardFault}
use Rattle.cedr_guard.specs.declared.fault.GuardFault.TheVariants as guard_fault
use Rattle.cedr_guard.specs.declared.ids.Ids.{Ids}
use Rattle.cedr_guard.specs.declared.ids.IdPlace.{IdPlace}
use Rattle.cedr_guard.specs.declared.state.EventState.{EventState}
use Rattle.cedr_base.specs.declared.interval.Interval.{Interval}
use Rattle.cedr_guard.specs.declared.judge.Judge.{Judge}
use Rattle.cedr_guard.specs.declared.judge.FoundEvent.{FoundEvent}
use Rattle.cedr_guard.specs.declared.guard.Guard.{Guard}
use Rattle.cedr_guard.specs.Judging.{guarantee_of, ends_of, event_with, AreAccepted}
use Rattle.cedr_guard.specs.History.{rows_among}
use Rattle.cedr_guard.specs.Ids.{place_among}
use Rattle.cedr_guard.specs.Spelt.{state_with}
use Rattle.cedr_guard.specs.States.{as_it_is}

-- at which place among the insertions an id was inserted first
abbrev pub place_of_event : ℕ → List EventLine → Option ℕ
place_of_event id [] = None
place_of_event id (Insert other row ∷ lines) = if other == id then Some 0 else option_map (λ n. suc n) (place_of_event id lines)
place_of_event id (Retract other end ∷ lines) = place_of_event id lines
place_of_event id (Revise other row ∷ lines) = place_of_event id lines
place_of_event id (Promise time ∷ lines) = place_of_event id lines

-- no id is inserted twice
abbrev pub AreApart : List EventLine → Type 0
AreApart [] = Unit {0}
AreApart (Insert id row ∷ lines) = (place_of_event id lines ≡ None) × AreApart lines
AreApart (Retract id end ∷ lines) = AreApart lines
AreApart (Revise id row ∷ lines) = AreApart lines
AreApart (Promise time ∷ lines) = AreApart lines

-- no id is inserted twice, and no line is about an event that another doesn't insert
pub record AreKnown (lines : List EventLine) : Type 0 where
  pub apart : AreApart lines
  pub known : (id : ℕ) → place_of_event id lines ≡ None → ends_of id lines ≡ []
  pub events : (id : ℕ) → place_of_event id lines ≡ None → event_with id lines ≡ None

-- when a row is valid
abbrev pub interval_of : Row → Interval
interval_of row = record { begin = row.begin; end = row.end }

-- the payload of a row
abbrev pub row_payload : Row → List Field
row_payload row = row.payload

-- the place of an id in the list, or else in the map
abbrev pub place_in : Ids → ℕ → Option ℕ
place_in ids id = option_or (place_among id ids.rising.items) (get nat_cmp ids.others id)

-- the judge stands for these lines: it has the valid interval of each event as it is after them, the place of
-- each id and the guarantee
pub record StandsFor (judge : Judge) (lines : List EventLine) : Type 0 where
  pub intervals : judge.intervals.items ≡ map interval_of (rows_among lines)
  pub places : (id : ℕ) → place_in judge.ids id ≡ place_of_event id lines
  pub mark : judge.mark ≡ guarantee_of lines
  pub ids : AreKnown lines

-- the guard stands for these lines: it has the payload of each event besides, and the lines are accepted
pub record Guards (guard : Guard) (lines : List EventLine) : Type 0 where
  pub judge : StandsFor guard.judge lines
  pub payloads : guard.payloads.items ≡ map row_payload (rows_among lines)
  pub accepted : AreAccepted lines

-- the row that a guard has at a place
abbrev pub stored_row : Guard → ℕ → Row
stored_row guard place = record {
  end = (slice_index_or guard.judge.intervals.items place (record { begin = 0; end = 0 })).end;
  begin = (slice_index_or guard.judge.intervals.items place (record { begin = 0; end = 0 })).begin;
  payload = slice_index_or guard.payloads.items place [];
}

-- the event with an id and the row at its place, as it is
abbrev pub stored_event : Guard → IdPlace → EventState
stored_event guard entry = state_with entry.id (as_it_is (stored_row guard entry.place))

-- the answer for a line whose least fault is known: that fault, unless memory ran out
abbrev pub Judges : {X : Type 0} → Result X GuardFault → Option LineFault → Type 0
Judges (Ok done) fault = fault ≡ None
Judges (Err (guard_fault.Line line)) fault = fault ≡ Some line
Judges (Err guard_fault.OutOfMemory) fault = Unit {0}

-- the event with this id, by its place among the insertions and its valid interval
pub record IsEventOf (id : ℕ) (lines : List EventLine) (found : FoundEvent) : Type 0 where
  pub place : place_of_event id lines ≡ Some found.place
  pub interval : option_map interval_of (event_with id lines) ≡ Some found.interval
