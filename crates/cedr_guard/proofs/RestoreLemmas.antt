-- A guard of a state stands for the lines that the state spells, and what a guard has stored is the state of its lines.
use Rattle.std.proofs.Common.{◌≡◌, ℕ, suc, ◌<◌, List, [], ◌∷◌, ◌++◌, map, length, get_or, Bool, true, false, cond, eqb, Option, None, Some, refl, ap, sym, ◌∙◌, arith}
use Rattle.std.specs.Prelude.{option_map}
use Rattle.std.proofs.lemmas.List.{get_or-map}
use Rattle.cedr_base.specs.declared.field.Field.{Field}
use Rattle.cedr_base.specs.declared.interval.Interval.{Interval}
use Rattle.cedr_base.specs.declared.row.Row.{Row}
use Rattle.cedr_text.specs.declared.event_line.EventLine.{EventLine}
use Rattle.cedr_text.specs.declared.event_line.EventLine.TheVariants.{Retract, Promise}
use Rattle.cedr_guard.specs.declared.guard.Guard.{Guard}
use Rattle.cedr_guard.specs.declared.ids.IdPlace.{IdPlace}
use Rattle.cedr_guard.specs.declared.judge.Judge.{Judge}
use Rattle.cedr_guard.specs.declared.state.EventState.{EventState}
use Rattle.cedr_guard.specs.Judging.{row_lives}
use Rattle.cedr_guard.specs.History.{rows_among}
use Rattle.cedr_guard.specs.Ids.{place_among, place_of_id, AreRising}
use Rattle.cedr_guard.specs.Standing.{place_of_event, place_in, interval_of, row_payload, StandsFor, Guards, stored_row, stored_event}
use Rattle.cedr_guard.specs.States.{as_it_is}
use Rattle.cedr_guard.specs.Spelt.{State, event_interval, state_row, state_of, row_of_id, events_among, by_id, inserts, retracts, lines_of, IsFit}
use Rattle.cedr_guard.proofs.EventLemmas.{event_place, place_below}
use Rattle.cedr_guard.proofs.MessageLemmas.{no_row}
use Rattle.cedr_guard.proofs.SpeltLemmas.{AllAbove, IdsAscend, can_restore, spelt_mark, known_lines, found_known, ascend_state, one_by_id}
use Rattle.cedr_guard.proofs.StateHistories.{last_lines, lines_are, rows_spelt, fit_accepted}

-- ---- the places of the lines of a state

no_place_at : (id : ℕ) (e : EventState) (b : Bool) (lines last : List EventLine) → place_of_event id (lines ++ last) ≡ None → place_of_event id (cond b lines (Retract e.id e.begin ∷ lines) ++ last) ≡ None
no_place_at id e true lines last none = none
no_place_at id e false lines last none = none

no_place : (id : ℕ) (es : List EventState) (mark : ℕ) → place_of_event id (last_lines es mark) ≡ None
no_place id [] mark = refl
no_place id (e ∷ es) mark = no_place_at id e (row_lives (state_row e)) (retracts es) (Promise mark ∷ []) (no_place id es mark)

places_are : (id : ℕ) (es : List EventState) (last : List EventLine) → place_of_event id last ≡ None → place_of_event id (inserts es ++ last) ≡ place_of_id id es
places_are id [] last none = none
places_are id (e ∷ es) last none = ap (λ (o : Option ℕ). cond (eqb e.id id) (Some 0) (option_map (λ (n : ℕ). suc n) o)) (places_are id es last none)

-- an event has the place in the lines of a state that it has in the state
pub places_spelt : (state : State) → IsFit state → (id : ℕ) → place_of_event id (lines_of state) ≡ place_of_id id state.events
places_spelt state fit id =
    ap (place_of_event id) (lines_are state.events state.mark fit) ∙ places_are id state.events (last_lines state.events state.mark) (no_place id state.events state.mark)

intervals_as : (es : List EventState) → map event_interval es ≡ map interval_of (map state_row es)
intervals_as [] = refl
intervals_as (e ∷ es) = ap (λ (is : List Interval). event_interval e ∷ is) (intervals_as es)

payloads_as : (es : List EventState) → map (λ (e : EventState). e.payload) es ≡ map row_payload (map state_row es)
payloads_as [] = refl
payloads_as (e ∷ es) = ap (λ (ps : List (List Field)). e.payload ∷ ps) (payloads_as es)

-- a judge of a state stands for the lines that it spells
pub judge_restored : (judge : Judge) (state : State) → IsFit state → judge.intervals.items ≡ map event_interval state.events → ((id : ℕ) → place_in judge.ids id ≡ place_of_id id state.events) → judge.mark ≡ state.mark → StandsFor judge (lines_of state)
judge_restored judge state fit intervals places mark = record {
  intervals = intervals ∙ (intervals_as state.events ∙ ap (map interval_of) (sym (rows_spelt state.events state.mark fit)));
  places = λ id. places id ∙ sym (places_spelt state fit id);
  mark = mark ∙ sym (spelt_mark state.events state.mark (can_restore state fit) fit.time);
  ids = known_lines (lines_of state) (fit_accepted state fit);
}

-- and so does a guard
pub guard_restored : (guard : Guard) (state : State) → IsFit state → StandsFor guard.judge (lines_of state) → guard.payloads.items ≡ map (λ (e : EventState). e.payload) state.events → Guards guard (lines_of state)
guard_restored guard state fit judge payloads = record {
  judge = judge;
  payloads = payloads ∙ (payloads_as state.events ∙ ap (map row_payload) (sym (rows_spelt state.events state.mark fit)));
  accepted = fit_accepted state fit;
}

-- ---- what a guard has stored

no_interval : Interval
no_interval = record { begin = 0; end = 0 }

same_row : (guard : Guard) (row : Row) (place : ℕ) → get_or guard.judge.intervals.items place (record { begin = 0; end = 0 }) ≡ interval_of row → get_or guard.payloads.items place [] ≡ row_payload row → stored_row guard place ≡ row
same_row guard row place interval payload =
    ap {B = Row} (λ (i : Interval). record { end = i.end; begin = i.begin; payload = get_or guard.payloads.items place [] }) interval
    ∙ ap {B = Row} (λ (p : List Field). record { end = row.end; begin = row.begin; payload = p }) payload

-- the row at an event's place is the event's
stored_is : (guard : Guard) (lines : List EventLine) (place : ℕ) → Guards guard lines → place < length (rows_among lines) → stored_row guard place ≡ get_or (rows_among lines) place no_row
stored_is guard lines place guards within =
    same_row guard (get_or (rows_among lines) place no_row) place
    (ap (λ (is : List Interval). get_or is place (record { begin = 0; end = 0 })) guards.judge.intervals ∙ get_or-map interval_of (rows_among lines) place no_row (record { begin = 0; end = 0 }) within)
    (ap (λ (ps : List (List Field)). get_or ps place []) guards.payloads ∙ get_or-map row_payload (rows_among lines) place no_row [] within)

stored_found : (guard : Guard) (id : ℕ) (entries : List IdPlace) → row_of_id id (map (stored_event guard) entries) ≡ option_map (λ (p : ℕ). as_it_is (stored_row guard p)) (place_among id entries)
stored_found guard id [] = refl
stored_found guard id (entry ∷ entries) = at (eqb entry.id id) (place_among id entries) (stored_found guard id entries) where
  at : (b : Bool) (place : Option ℕ) → row_of_id id (map (stored_event guard) entries) ≡ option_map (λ (p : ℕ). as_it_is (stored_row guard p)) place
      → cond b (Some (as_it_is (stored_row guard entry.place))) (row_of_id id (map (stored_event guard) entries)) ≡ option_map (λ (p : ℕ). as_it_is (stored_row guard p)) (cond b (Some entry.place) place)
  at true place rest = refl
  at false place rest = rest

known_at : (guard : Guard) (lines : List EventLine) (id : ℕ) → Guards guard lines → (place : Option ℕ) → place_of_event id lines ≡ place
    → option_map (λ (p : ℕ). as_it_is (stored_row guard p)) place ≡ option_map as_it_is (option_map (λ (p : ℕ). get_or (rows_among lines) p no_row) place)
known_at guard lines id guards None is = refl
known_at guard lines id guards (Some p) is = ap (λ (r : Row). Some (as_it_is r)) (stored_is guard lines p guards (place_below id lines p is))

above_stored : (guard : Guard) (id : ℕ) (entries : List IdPlace) → ((k : ℕ) (d : IdPlace) → k < length entries → id < (get_or entries k d).id) → AllAbove id (map (stored_event guard) entries)
above_stored guard id [] above = tt
above_stored guard id (entry ∷ entries) above = (above 0 entry (omega arith), above_stored guard id entries (λ k d within. above (suc k) d (omega arith)))

ascend_stored : (guard : Guard) (entries : List IdPlace) → AreRising entries → IdsAscend (map (stored_event guard) entries)
ascend_stored guard [] rising = tt
ascend_stored guard (entry ∷ entries) rising = (
  above_stored guard entry.id entries (λ k d within. rising 0 (suc k) d (omega arith) (omega arith)),
  ascend_stored guard entries (λ i j d low within. rising (suc i) (suc j) d (omega arith) (omega arith)),
)

-- the stored events by ascending ids are those of the state
pub stored_state : (guard : Guard) (lines : List EventLine) (entries : List IdPlace) → Guards guard lines → AreRising entries → ((id : ℕ) → place_among id entries ≡ place_in guard.judge.ids id) → map (stored_event guard) entries ≡ (state_of lines).events
stored_state guard lines entries guards rising places =
    let known = guards.judge.ids in
    one_by_id (map (stored_event guard) entries) (by_id (events_among lines)) (ascend_stored guard entries rising) (ascend_state lines known) (λ id.
    stored_found guard id entries
    ∙ (ap (option_map (λ (p : ℕ). as_it_is (stored_row guard p))) (places id ∙ guards.judge.places id)
    ∙ (known_at guard lines id guards (place_of_event id lines) refl
    ∙ (ap (option_map as_it_is) (sym (event_place id lines no_row known)) ∙ sym (found_known id lines known)))))
