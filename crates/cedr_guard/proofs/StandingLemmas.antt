-- A judge that takes one more line stands for the lines with that one.
use Rattle.std.proofs.Common.{◌≡◌, ℕ, ◌<◌, ◌≤◌, List, [], ◌∷◌, ◌++◌, Bool, true, false, cond, ◌&&◌, eqb, length, get_or, set, max, Option, None, Some, refl, ap, sym, ◌∙◌, arith}
use Rattle.std.specs.Prelude.{option_map, is_some, nat_lt, nat_le, map}
use Rattle.std.specs.Option.{option_or}
use Rattle.std.proofs.lemmas.Bool.{ltb-true}
use Rattle.std.proofs.lemmas.List.{map-append, map-set, get_or-map, length-map}
use Rattle.cedr_base.specs.declared.row.Row.{Row}
use Rattle.cedr_text.specs.declared.event_line.EventLine.{EventLine}
use Rattle.cedr_text.specs.declared.event_line.EventLine.TheVariants.{Insert, Retract, Revise, Promise}
use Rattle.cedr_text.specs.declared.fault.LineFault.TheVariants.{KnownId, UnknownId, BadEnd}
use Rattle.cedr_guard.specs.declared.judge.FoundEvent.{FoundEvent}
use Rattle.cedr_guard.specs.declared.judge.Judge.{Judge}
use Rattle.cedr_base.specs.declared.interval.Interval.{Interval}
use Rattle.cedr_guard.specs.Judging.{guarantee_of, event_with, fault_behind, guarantee_fault, retraction_fault, revision_fault}
use Rattle.cedr_guard.specs.History.{rows_among}
use Rattle.cedr_guard.specs.Standing.{place_of_event, place_in, interval_of, StandsFor, IsEventOf}
use Rattle.cedr_guard.proofs.ApartLemmas.{known-insert, known-retract, known-revise, known-promise}
use Rattle.cedr_guard.proofs.EventLemmas.{guarantee_of-append, place_of-insert, place_of-push, event_place, place_below, rows-insert, rows-retract, rows-revise, rows-promise}

-- ---- the judge stands for one more line

-- a judge stands for one more insertion of a new id, where it adds the interval and the id's place, and
-- keeps its mark
pub stands-insert : (judge next : Judge) (before : List EventLine) (id : ℕ) (row : Row) → StandsFor judge before → place_of_event id before ≡ None
    → next.intervals.items ≡ judge.intervals.items ++ interval_of row ∷ []
    → ((q : ℕ) → place_in next.ids q ≡ option_or (place_in judge.ids q) (cond (eqb id q) (Some (length judge.intervals.items)) None))
    → next.mark ≡ judge.mark → StandsFor next (before ++ Insert id row ∷ [])
stands-insert judge next before id row stands none intervals places mark =
    let count = ap length stands.intervals ∙ length-map (rows_among before) interval_of in
    record {
      intervals = intervals
          ∙ (ap (λ olds. olds ++ interval_of row ∷ []) stands.intervals
          ∙ (sym (map-append interval_of (rows_among before) (row ∷ []))
          ∙ ap (map interval_of) (sym (rows-insert id row before none))));
      places = λ q. places q
          ∙ (ap (λ place. option_or place (cond (eqb id q) (Some (length judge.intervals.items)) None)) (stands.places q)
          ∙ (ap (λ (n : ℕ). option_or (place_of_event q before) (cond (eqb id q) (Some n) None)) count
          ∙ sym (place_of-insert q id row before)));
      mark = mark ∙ (stands.mark ∙ (let g = guarantee_of-append before (Insert id row ∷ []) in omega arith));
      ids = known-insert id row before stands.ids none;
    }

-- a judge stands for one more retraction that ends an event no later, where it sets that end and changes
-- nothing else
pub stands-retract : (judge next : Judge) (before : List EventLine) (id end p : ℕ) (d : Row) → StandsFor judge before → place_of_event id before ≡ Some p
    → end ≤ (get_or (rows_among before) p d).end → next.intervals.items ≡ set judge.intervals.items p (interval_of (record (get_or (rows_among before) p d) { end = end }))
    → ((q : ℕ) → place_in next.ids q ≡ place_in judge.ids q) → next.mark ≡ judge.mark → StandsFor next (before ++ Retract id end ∷ [])
stands-retract judge next before id end p d stands at low intervals places mark =
    record {
      intervals = intervals
          ∙ (ap (λ olds. set olds p (interval_of (record (get_or (rows_among before) p d) { end = end }))) stands.intervals
          ∙ (sym (map-set interval_of (rows_among before) p (record (get_or (rows_among before) p d) { end = end }))
          ∙ ap (map interval_of) (sym (rows-retract id end before p d stands.ids.apart at low))));
      places = λ q. places q ∙ (stands.places q ∙ sym (place_of-push q (Retract id end) before tt));
      mark = mark ∙ (stands.mark ∙ (let g = guarantee_of-append before (Retract id end ∷ []) in omega arith));
      ids = known-retract id end p before stands.ids at;
    }

-- a judge stands for one more revision of an event, where it sets the interval and changes nothing else
pub stands-revise : (judge next : Judge) (before : List EventLine) (id p : ℕ) (row : Row) → StandsFor judge before → place_of_event id before ≡ Some p
    → next.intervals.items ≡ set judge.intervals.items p (interval_of row) → ((q : ℕ) → place_in next.ids q ≡ place_in judge.ids q) → next.mark ≡ judge.mark → StandsFor next (before ++ Revise id row ∷ [])
stands-revise judge next before id p row stands at intervals places mark =
    record {
      intervals = intervals
          ∙ (ap (λ olds. set olds p (interval_of row)) stands.intervals
          ∙ (sym (map-set interval_of (rows_among before) p row)
          ∙ ap (map interval_of) (sym (rows-revise id row before p stands.ids.apart at))));
      places = λ q. places q ∙ (stands.places q ∙ sym (place_of-push q (Revise id row) before tt));
      mark = mark ∙ (stands.mark ∙ (let g = guarantee_of-append before (Revise id row ∷ []) in omega arith));
      ids = known-revise id p row before stands.ids at;
    }

-- a judge stands for one more guarantee, where its mark is the greater of the two and nothing else changes
pub stands-promise : (judge next : Judge) (before : List EventLine) (time : ℕ) → StandsFor judge before
    → next.intervals.items ≡ judge.intervals.items → ((q : ℕ) → place_in next.ids q ≡ place_in judge.ids q) → next.mark ≡ max judge.mark time → StandsFor next (before ++ Promise time ∷ [])
stands-promise judge next before time stands intervals places mark =
    record {
      intervals = intervals ∙ (stands.intervals ∙ ap (map interval_of) (sym (rows-promise time before)));
      places = λ q. places q ∙ (stands.places q ∙ sym (place_of-push q (Promise time) before tt));
      mark = mark ∙ (let g = guarantee_of-append before (Promise time ∷ []) in omega (arith, stands.mark));
      ids = known-promise time before stands.ids;
    }

-- ---- what the judge knows of an id

some_mapped : {X : Type 0} (f : ℕ → X) (place : Option ℕ) → is_some (option_map f place) ≡ is_some place
some_mapped f None = refl
some_mapped f (Some p) = refl

-- a judge has a place for an id exactly where there is an event with that id
pub known_id : (judge : Judge) (before : List EventLine) (id : ℕ) (row : Row) → StandsFor judge before → is_some (event_with id before) ≡ is_some (place_in judge.ids id)
known_id judge before id row stands =
    ap is_some (event_place id before row stands.ids) ∙ (some_mapped (λ p. get_or (rows_among before) p row) (place_of_event id before) ∙ ap is_some (sym (stands.places id)))

-- the fault of an insertion
pub fault-insert : (judge : Judge) (before : List EventLine) (id : ℕ) (row : Row) → StandsFor judge before
    → fault_behind before (Insert id row) ≡ cond (is_some (place_in judge.ids id)) (Some KnownId) (guarantee_fault row.begin judge.mark)
fault-insert judge before id row stands =
    ap (λ test. cond test (Some KnownId) (guarantee_fault row.begin (guarantee_of before))) (known_id judge before id row stands)
    ∙ ap (λ mark. cond (is_some (place_in judge.ids id)) (Some KnownId) (guarantee_fault row.begin mark)) (sym stands.mark)

-- an id at this place has the row there
pub event_here : (judge : Judge) (before : List EventLine) (id p : ℕ) (d : Row) → StandsFor judge before → place_in judge.ids id ≡ Some p → event_with id before ≡ Some (get_or (rows_among before) p d)
event_here judge before id p d stands there =
    event_place id before d stands.ids ∙ ap (option_map (λ q. get_or (rows_among before) q d)) (sym (stands.places id) ∙ there)

-- the place that a judge has for an id is that of a row
pub row_here : (judge : Judge) (before : List EventLine) (id p : ℕ) → StandsFor judge before → place_in judge.ids id ≡ Some p → p < length (rows_among before)
row_here judge before id p stands there = place_below id before p (sym (stands.places id) ∙ there)

-- the interval that a judge has at an id's place is that of the row there
pub interval_here : (judge : Judge) (before : List EventLine) (id p : ℕ) (d : Row) (e : Interval) → StandsFor judge before → place_in judge.ids id ≡ Some p
    → get_or judge.intervals.items p e ≡ interval_of (get_or (rows_among before) p d)
interval_here judge before id p d e stands there =
    ap (λ intervals. get_or intervals p e) stands.intervals ∙ get_or-map interval_of (rows_among before) p d e (row_here judge before id p stands there)

-- an id that has no place
pub none_at : (place : Option ℕ) → is_some place ≡ false → place ≡ None
none_at None h = refl
none_at (Some p) h = cc

-- a retraction without a fault shortens the row
shorter_at : (low high : Bool) (end mark : ℕ) (row : Row) → cond (low && high) (guarantee_fault end mark) (Some (BadEnd row.begin row.end)) ≡ None → high ≡ true
shorter_at true true end mark row h = refl
shorter_at true false end mark row h = cc
shorter_at false high end mark row h = cc

-- a retraction without a fault has a new end below that of its row
pub shorter : (row : Row) (end mark : ℕ) → retraction_fault (Some row) end mark ≡ None → end < row.end
shorter row end mark h = ltb-true end row.end (shorter_at (nat_le row.begin end) (nat_lt end row.end) end mark row h)

row_at : (found : Option Row) (interval : Interval) → option_map interval_of found ≡ Some interval → (row : Row) × (found ≡ Some row) × (interval_of row ≡ interval)
row_at None interval is = cc
row_at (Some row) interval is = (row, refl, cc)

-- the fault of a line about an event that isn't there
pub fault-unknown : (before : List EventLine) (id end : ℕ) (row : Row) → event_with id before ≡ None
    → (fault_behind before (Retract id end) ≡ Some UnknownId) × (fault_behind before (Revise id row) ≡ Some UnknownId)
fault-unknown before id end row none = (
  ap (λ event. retraction_fault event end (guarantee_of before)) none,
  ap (λ event. revision_fault event row.begin (guarantee_of before)) none,
)

-- the row of an event that was found
pub found_row : (id : ℕ) (before : List EventLine) (found : FoundEvent) → IsEventOf id before found → (row : Row) × (event_with id before ≡ Some row) × (interval_of row ≡ found.interval)
found_row id before found is = row_at (event_with id before) found.interval is.interval
