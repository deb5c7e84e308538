-- A guard that takes one more line stands for the lines with that one.
use Rattle.std.proofs.Common.{◌≡◌, ℕ, ◌<◌, List, [], ◌∷◌, ◌++◌, Bool, true, false, cond, length, get_or, set, Option, None, Some, refl, ap, sym, ◌∙◌, subst, arith, append_assoc}
use Rattle.std.specs.Prelude.{option_map, is_some, map}
use Rattle.std.proofs.lemmas.List.{map-append, map-set, get_or-map, length-map}
use Rattle.std.proofs.Math.Seq.{map-set_same}
use Rattle.cedr_base.specs.declared.row.Row.{Row}
use Rattle.cedr_base.specs.declared.field.Field.{Field}
use Rattle.cedr_base.specs.declared.change.Change.TheVariants.{Add, Cut}
use Rattle.cedr_base.specs.declared.change.Message.{Message}
use Rattle.cedr_base.specs.declared.change.Message.TheVariants as message
use Rattle.cedr_text.specs.declared.event_line.EventLine.{EventLine}
use Rattle.cedr_text.specs.declared.event_line.EventLine.TheVariants.{Insert, Retract, Revise, Promise}
use Rattle.cedr_text.specs.declared.fault.LineFault.{LineFault}
use Rattle.cedr_text.specs.declared.fault.LineFault.TheVariants.{KnownId}
use Rattle.cedr_base.specs.declared.interval.Interval.{Interval}
use Rattle.cedr_guard.specs.declared.judge.FoundEvent.{FoundEvent}
use Rattle.cedr_guard.specs.declared.judge.Judge.{Judge}
use Rattle.cedr_guard.specs.declared.guard.Guard.{Guard}
use Rattle.cedr_guard.specs.Judging.{guarantee_of, event_with, row_lives, guarantee_fault, retraction_fault, fault_behind, AreAccepted}
use Rattle.cedr_text.specs.Reading.{IsEvent}
use Rattle.cedr_guard.specs.History.{rows_among}
use Rattle.cedr_guard.specs.Messages.{withdrawal_of}
use Rattle.cedr_guard.specs.Standing.{place_of_event, place_in, interval_of, row_payload, IsEventOf, StandsFor, Guards}
use Rattle.cedr_guard.proofs.EventLemmas.{event_place, place_below, rows-insert, rows-retract, rows-revise, rows-promise}
use Rattle.cedr_guard.proofs.MessageLemmas.{no_row, retracted_at}
use Rattle.cedr_guard.proofs.StandingLemmas.{fault-insert, event_here, none_at}
use Rattle.cedr_guard.proofs.SourceLemmas.{accepted-push}

-- ---- accepted lines

-- one more accepted line
pub accepted-more : (lines : List EventLine) (line : EventLine) → AreAccepted lines → IsEvent line → fault_behind lines line ≡ None → AreAccepted (lines ++ line ∷ [])
accepted-more lines line all event none = accepted-push [] lines line all (record { event = event; faultless = none })

-- ---- the payloads of events

unknown_at : (known : Bool) (late : Option LineFault) → cond known (Some KnownId) late ≡ None → known ≡ false
unknown_at true late h = cc
unknown_at false late h = refl

-- an insertion without a fault has a new id
new_id : (judge : Judge) (before : List EventLine) (id : ℕ) (row : Row) → StandsFor judge before → fault_behind before (Insert id row) ≡ None → place_of_event id before ≡ None
new_id judge before id row stands none =
    sym (stands.places id)
    ∙ none_at (place_in judge.ids id) (unknown_at (is_some (place_in judge.ids id)) (guarantee_fault row.begin judge.mark) (sym (fault-insert judge before id row stands) ∙ none))

-- an insertion without a fault has one payload more
pub payloads-insert : (judge : Judge) (before : List EventLine) (id : ℕ) (row : Row) → StandsFor judge before → fault_behind before (Insert id row) ≡ None
    → map row_payload (rows_among (before ++ Insert id row ∷ [])) ≡ map row_payload (rows_among before) ++ row.payload ∷ []
payloads-insert judge before id row stands none =
    ap (map row_payload) (rows-insert id row before (new_id judge before id row stands none)) ∙ map-append row_payload (rows_among before) (row ∷ [])

-- a retraction without a fault changes none
pub payloads-retract : (judge : Judge) (before : List EventLine) (id end : ℕ) → StandsFor judge before → fault_behind before (Retract id end) ≡ None
    → map row_payload (rows_among (before ++ Retract id end ∷ [])) ≡ map row_payload (rows_among before)
payloads-retract judge before id end stands none =
    let rows = rows_among before in
    let right = retracted_at (place_of_event id before) rows end (guarantee_of before) (subst (λ found. retraction_fault found end (guarantee_of before) ≡ None) (event_place id before no_row stands.ids) none) in
    ap (map row_payload) (rows-retract id end before right.0 no_row stands.ids.apart right.1 (omega (arith, right.2.shorter)))
    ∙ map-set_same row_payload rows right.0 (record (get_or rows right.0 no_row) { end = end }) no_row refl

-- a revision changes that of its event
pub payloads-revise : (judge : Judge) (before : List EventLine) (id p : ℕ) (row : Row) → StandsFor judge before → place_of_event id before ≡ Some p
    → map row_payload (rows_among (before ++ Revise id row ∷ [])) ≡ set (map row_payload (rows_among before)) p row.payload
payloads-revise judge before id p row stands at = ap (map row_payload) (rows-revise id row before p stands.ids.apart at) ∙ map-set row_payload (rows_among before) p row

-- a guarantee changes none
pub payloads-promise : (before : List EventLine) (time : ℕ) → map row_payload (rows_among (before ++ Promise time ∷ [])) ≡ map row_payload (rows_among before)
payloads-promise before time = ap (map row_payload) (rows-promise time before)

-- the place of an event is that of a payload
pub payload_within : (payloads : List (List Field)) (before : List EventLine) (id p : ℕ) → payloads ≡ map row_payload (rows_among before) → place_of_event id before ≡ Some p → p < length payloads
payload_within payloads before id p are at = omega (arith, place_below id before p at, ap length are, length-map (rows_among before) row_payload)

-- ---- a guard with one more line

-- a guard stands for one more insertion without a fault, where its judge does and it adds the payload
pub guards-insert : (guard next : Guard) (before : List EventLine) (id : ℕ) (row : Row) → Guards guard before → IsEvent (Insert id row) → fault_behind before (Insert id row) ≡ None
    → StandsFor next.judge (before ++ Insert id row ∷ []) → next.payloads.items ≡ guard.payloads.items ++ row.payload ∷ [] → Guards next (before ++ Insert id row ∷ [])
guards-insert guard next before id row guards event none judge payloads =
    record {
      judge = judge;
      payloads = payloads ∙ (ap (λ olds. olds ++ row.payload ∷ []) guards.payloads ∙ sym (payloads-insert guard.judge before id row guards.judge none));
      accepted = accepted-more before (Insert id row) guards.accepted event none;
    }

-- a guard stands for one more retraction without a fault, where its judge does and no payload changes
pub guards-retract : (guard next : Guard) (before : List EventLine) (id end : ℕ) → Guards guard before → IsEvent (Retract id end) → fault_behind before (Retract id end) ≡ None
    → StandsFor next.judge (before ++ Retract id end ∷ []) → next.payloads.items ≡ guard.payloads.items → Guards next (before ++ Retract id end ∷ [])
guards-retract guard next before id end guards event none judge payloads =
    record {
      judge = judge;
      payloads = payloads ∙ (guards.payloads ∙ sym (payloads-retract guard.judge before id end guards.judge none));
      accepted = accepted-more before (Retract id end) guards.accepted event none;
    }

-- a guard stands for one more revision without a fault, where its judge does and the event's payload is the new one
pub guards-revise : (guard next : Guard) (before : List EventLine) (id p : ℕ) (row : Row) → Guards guard before → IsEvent (Revise id row) → place_of_event id before ≡ Some p → fault_behind before (Revise id row) ≡ None
    → StandsFor next.judge (before ++ Revise id row ∷ []) → next.payloads.items ≡ set guard.payloads.items p row.payload → Guards next (before ++ Revise id row ∷ [])
guards-revise guard next before id p row guards event at none judge payloads =
    record {
      judge = judge;
      payloads = payloads ∙ (ap (λ olds. set olds p row.payload) guards.payloads ∙ sym (payloads-revise guard.judge before id p row guards.judge at));
      accepted = accepted-more before (Revise id row) guards.accepted event none;
    }

-- a guard stands for one more guarantee, where its judge does and no payload changes
pub guards-promise : (guard next : Guard) (before : List EventLine) (time : ℕ) → Guards guard before → IsEvent (Promise time)
    → StandsFor next.judge (before ++ Promise time ∷ []) → next.payloads.items ≡ guard.payloads.items → Guards next (before ++ Promise time ∷ [])
guards-promise guard next before time guards event judge payloads =
    record {
      judge = judge;
      payloads = payloads ∙ (guards.payloads ∙ sym (payloads-promise before time));
      accepted = accepted-more before (Promise time) guards.accepted event refl;
    }

-- ---- the row that a retraction or a revision is about

same_row : (row : Row) (interval : Interval) (payload : List Field) → interval_of row ≡ interval → row_payload row ≡ payload
    → ◌≡◌ {A = Row} (record { end = interval.end; begin = interval.begin; payload = payload }) row
same_row row interval payload valid paid =
    ap {B = Row} (λ (i : Interval). record { end = i.end; begin = i.begin; payload = payload }) (sym valid)
    ∙ ap {B = Row} (λ p. record { end = row.end; begin = row.begin; payload = p }) (sym paid)

some_same : (i j : Interval) → ◌≡◌ {A = Option Interval} (Some i) (Some j) → i ≡ j
some_same i j h = cc

-- it has the interval that the judge found, and the payload that the guard has at its place
pub event_found : (guard : Guard) (before : List EventLine) (id : ℕ) (found : FoundEvent) (payload : List Field) → Guards guard before → IsEventOf id before found
    → get_or guard.payloads.items found.place payload ≡ payload
    → event_with id before ≡ Some (record { end = found.interval.end; begin = found.interval.begin; payload = payload })
event_found guard before id found payload guards is here =
    let row = get_or (rows_among before) found.place no_row in
    let event = event_here guard.judge before id found.place no_row guards.judge (guards.judge.places id ∙ is.place) in
    let valid = some_same (interval_of row) found.interval (ap (option_map interval_of) (sym event) ∙ is.interval) in
    let paid : row_payload row ≡ payload =
    sym (get_or-map row_payload (rows_among before) found.place no_row payload (place_below id before found.place is.place))
    ∙ (ap (λ payloads. get_or payloads found.place payload) (sym guards.payloads) ∙ here) in
    event ∙ ap {B = Option Row} (λ r. Some r) (sym (same_row row found.interval payload valid paid))

-- ---- the messages of a revision

-- what stands behind some messages once a row that lives was cut, and then the new one is added
pub revised_messages : (lives : Bool) (old row : Row) (out mid : List Message) → row_lives old ≡ lives → mid ≡ out ++ cond lives (message.Change (Cut old old.begin) ∷ []) []
    → mid ++ message.Change (Add row) ∷ [] ≡ out ++ (withdrawal_of (Some old) ++ message.Change (Add row) ∷ [])
revised_messages lives old row out mid is cut =
    let withdrawn = cond lives (message.Change (Cut old old.begin) ∷ []) [] in
    let added : List Message = message.Change (Add row) ∷ [] in
    ap (λ ms. ms ++ added) cut
    ∙ (append_assoc out withdrawn added
    ∙ ap (λ (test : Bool). out ++ (cond test (message.Change (Cut old old.begin) ∷ []) [] ++ added)) (sym is))
