-- The state of accepted lines, and the lines of a state, which lead to it.
use Rattle.std.proofs.Common.{◌≡◌, ℕ, zero, suc, ◌+◌, ◌<◌, ◌≤◌, List, [], ◌∷◌, ◌++◌, length, get_or, Bool, true, false, cond, eqb, ◌&&◌, min, Option, None, Some, inl, inr, refl, ap, sym, ◌∙◌, subst, arith, append_assoc, append-nil}
use Rattle.std.specs.Prelude.{option_map, is_some, nat_lt, nat_le, All, AllPairs}
use Rattle.std.specs.Option.{option_or}
use Rattle.std.proofs.lemmas.Bool.{cases_lt, eqb-true, eq-eqb, ltb-true, ltb-false, leb-true, lt-ltb, le-leb, and_parts, and_from}
use Rattle.cedr_base.specs.declared.row.Row.{Row}
use Rattle.cedr_base.specs.declared.time.TheConstants.{FOREVER}
use Rattle.cedr_base.specs.Rows.{IsRow}
use Rattle.cedr_text.specs.declared.event_line.EventLine.{EventLine}
use Rattle.cedr_text.specs.declared.event_line.EventLine.TheVariants.{Insert, Retract, Revise, Promise}
use Rattle.cedr_text.specs.declared.fault.LineFault.TheVariants.{KnownId, BadEnd, BeforeGuarantee}
use Rattle.cedr_guard.specs.declared.state.EventState.{EventState}
use Rattle.cedr_guard.specs.Judging.{guarantee_of, event_with, row_lives, guarantee_fault, retraction_fault, IsAccepted, AreAccepted, AreAcceptedBehind}
use Rattle.cedr_guard.specs.History.{rows_among}
use Rattle.cedr_guard.specs.Standing.{place_of_event, AreKnown, AreApart}
use Rattle.cedr_guard.specs.States.{as_it_is, known_of, SameState}
use Rattle.cedr_guard.specs.Spelt.{State, state_row, state_with, events_among, put_event, by_id, state_of, row_of_id, IsState, IsFit, IsBareEvent, HasBare, inserted_row, inserts, retracts, lines_of}
use Rattle.cedr_guard.proofs.EventLemmas.{guarantee_of-append, ended, event-push, row_now, event_place}
use Rattle.cedr_guard.proofs.MessageLemmas.{no_row, accepted_messages}
use Rattle.cedr_guard.proofs.StateLemmas.{some_row, lives_as, as_living, as_gone}

-- ---- finding an event

pub eqb_itself : (n : ℕ) → eqb n n ≡ true
eqb_itself n = eq-eqb n n refl

-- no id stands twice
abbrev pub AreDistinct : List EventState → Type 0
AreDistinct [] = Unit {0}
AreDistinct (e ∷ es) = (row_of_id e.id es ≡ None) × AreDistinct es

pub find_first : (e : EventState) (es : List EventState) → row_of_id e.id (e ∷ es) ≡ Some (state_row e)
find_first e es = ap (λ (b : Bool). cond b (Some (state_row e)) (row_of_id e.id es)) (eqb_itself e.id)

not_first_at : (b : Bool) (e : EventState) (es : List EventState) (id : ℕ) (row : Row) → eqb e.id id ≡ b → row_of_id e.id es ≡ None → row_of_id id es ≡ Some row → b ≡ false
not_first_at true e es id row h none there = absurd (let k = ap (λ (i : ℕ). row_of_id i es) (eqb-true e.id id h) in let m = sym none ∙ (k ∙ there) in cc)
not_first_at false e es id row h none there = refl

pub not_first : (e : EventState) (es : List EventState) (id : ℕ) (row : Row) → row_of_id e.id es ≡ None → row_of_id id es ≡ Some row → eqb e.id id ≡ false
not_first e es id row none there = not_first_at (eqb e.id id) e es id row refl none there

pub find_later : (e : EventState) (es : List EventState) (id : ℕ) (row : Row) → row_of_id e.id es ≡ None → row_of_id id es ≡ Some row → row_of_id id (e ∷ es) ≡ Some row
find_later e es id row none there = ap (λ (b : Bool). cond b (Some (state_row e)) (row_of_id id es)) (not_first e es id row none there) ∙ there

skip_two : (a b : Bool) (x y : Row) (rest : Option Row) → (a ≡ true → b ≡ false) → cond a (Some x) (cond b (Some y) rest) ≡ cond b (Some y) (cond a (Some x) rest)
skip_two true true x y rest apart = absurd (let e = apart refl in cc)
skip_two true false x y rest apart = refl
skip_two false b x y rest apart = refl

low_apart : (a b id : ℕ) → a < b → eqb a id ≡ true → (t : Bool) → eqb b id ≡ t → t ≡ false
low_apart a b id low here true there = absurd (let x = eqb-true a id here in let y = eqb-true b id there in omega arith)
low_apart a b id low here false there = refl

-- a put event is found as if it were the first one
find_put_at : (id : ℕ) (e x : EventState) (es : List EventState) (b : Bool) → nat_lt x.id e.id ≡ b → row_of_id id (put_event e es) ≡ row_of_id id (e ∷ es)
    → row_of_id id (cond b (x ∷ put_event e es) (e ∷ x ∷ es)) ≡ row_of_id id (e ∷ x ∷ es)
find_put_at id e x es true low rest =
    ap (λ (o : Option Row). cond (eqb x.id id) (Some (state_row x)) o) rest
    ∙ skip_two (eqb x.id id) (eqb e.id id) (state_row x) (state_row e) (row_of_id id es) (λ here. low_apart x.id e.id id (ltb-true x.id e.id low) here (eqb e.id id) refl)
find_put_at id e x es false low rest = refl

find_put : (id : ℕ) (e : EventState) (es : List EventState) → row_of_id id (put_event e es) ≡ row_of_id id (e ∷ es)
find_put id e [] = refl
find_put id e (x ∷ es) = find_put_at id e x es (nat_lt x.id e.id) refl (find_put id e es)

-- events by ascending ids are found as before
pub find_by_id : (id : ℕ) (es : List EventState) → row_of_id id (by_id es) ≡ row_of_id id es
find_by_id id [] = refl
find_by_id id (e ∷ es) = find_put id e (by_id es) ∙ ap (λ (o : Option Row). cond (eqb e.id id) (Some (state_row e)) o) (find_by_id id es)

-- ---- ids that ascend

-- each id is above a number
abbrev pub AllAbove : ℕ → List EventState → Type 0
AllAbove id [] = Unit {0}
AllAbove id (e ∷ events) = (id < e.id) × AllAbove id events

-- the ids ascend
abbrev pub IdsAscend : List EventState → Type 0
IdsAscend [] = Unit {0}
IdsAscend (e ∷ events) = AllAbove e.id events × IdsAscend events

above_later : (id : ℕ) (es : List EventState) → ((k : ℕ) (d : EventState) → k < length es → id < (get_or es k d).id) → AllAbove id es
above_later id [] all = tt
above_later id (e ∷ es) all = (all 0 e (omega arith), above_later id es (λ k d within. all (suc k) d (omega arith)))

-- ids that ascend by their places ascend
pub ascend_from : (es : List EventState) → AllPairs (λ (e : EventState) (later : EventState). e.id < later.id) es → IdsAscend es
ascend_from [] up = tt
ascend_from (e ∷ es) up = (above_later e.id es (λ k d within. up 0 (suc k) d (omega arith) (omega arith)), ascend_from es (λ i j d low within. up (suc i) (suc j) d (omega arith) (omega arith)))

above_at : (id : ℕ) (es : List EventState) (k : ℕ) (d : EventState) → AllAbove id es → k < length es → id < (get_or es k d).id
above_at id [] k d above within = absurd (omega arith)
above_at id (e ∷ es) zero d above within = above.0
above_at id (e ∷ es) (suc k) d above within = above_at id es k d above.1 (omega arith)

-- and the other way round
pub pairs_from : (es : List EventState) → IdsAscend es → AllPairs (λ (e : EventState) (later : EventState). e.id < later.id) es
pairs_from [] up i j d low within = absurd (omega arith)
pairs_from (e ∷ es) up zero zero d low within = absurd (omega arith)
pairs_from (e ∷ es) up zero (suc j) d low within = above_at e.id es j d up.0 (omega arith)
pairs_from (e ∷ es) up (suc i) zero d low within = absurd (omega arith)
pairs_from (e ∷ es) up (suc i) (suc j) d low within = pairs_from es up.1 i j d (omega arith) (omega arith)

above_apart : (a b : ℕ) (t : Bool) → a < b → eqb b a ≡ t → t ≡ false
above_apart a b true h e = absurd (let same = eqb-true b a e in omega arith)
above_apart a b false h e = refl

none_above : (id : ℕ) (es : List EventState) → AllAbove id es → row_of_id id es ≡ None
none_above id [] above = refl
none_above id (e ∷ es) above = ap (λ (b : Bool). cond b (Some (state_row e)) (row_of_id id es)) (above_apart id e.id (eqb e.id id) above.0 refl) ∙ none_above id es above.1

ascend_distinct : (es : List EventState) → IdsAscend es → AreDistinct es
ascend_distinct [] up = tt
ascend_distinct (e ∷ es) up = (none_above e.id es up.0, ascend_distinct es up.1)

above_lower : (a b : ℕ) (es : List EventState) → a ≤ b → AllAbove b es → AllAbove a es
above_lower a b [] low above = tt
above_lower a b (e ∷ es) low above = let first = above.0 in (omega arith, above_lower a b es low above.1)

above_put_at : (id : ℕ) (e x : EventState) (es : List EventState) (b : Bool) → id < e.id → id < x.id → AllAbove id es → AllAbove id (put_event e es) → AllAbove id (cond b (x ∷ put_event e es) (e ∷ x ∷ es))
above_put_at id e x es true low high above put = (high, put)
above_put_at id e x es false low high above put = (low, (high, above))

above_put : (id : ℕ) (e : EventState) (es : List EventState) → id < e.id → AllAbove id es → AllAbove id (put_event e es)
above_put id e [] low above = (low, tt)
above_put id e (x ∷ es) low above = above_put_at id e x es (nat_lt x.id e.id) low above.0 above.1 (above_put id e es low above.1)

not_there : (b : Bool) (row : Row) (rest : Option Row) → cond b (Some row) rest ≡ None → (b ≡ false) × (rest ≡ None)
not_there true row rest h = absurd (let k = h in cc)
not_there false row rest h = (refl, h)

apart_below : (a b : ℕ) → eqb b a ≡ false → a ≤ b → a < b
apart_below a b apart low = elim (cases_lt a b) [
  | inl lower ↦ lower
  | inr higher ↦ absurd (let same = eq-eqb b a (omega arith) in cc)
]

ascend_put_at : (e x : EventState) (es : List EventState) (b : Bool) → nat_lt x.id e.id ≡ b → eqb x.id e.id ≡ false → AllAbove x.id es → IdsAscend es → IdsAscend (put_event e es)
    → IdsAscend (cond b (x ∷ put_event e es) (e ∷ x ∷ es))
ascend_put_at e x es true low apart above up put = (above_put x.id e es (ltb-true x.id e.id low) above, put)
ascend_put_at e x es false high apart above up put =
    let below = apart_below e.id x.id apart (ltb-false x.id e.id high) in
    ((below, above_lower e.id x.id es (omega arith) above), (above, up))

ascend_put : (e : EventState) (es : List EventState) → row_of_id e.id es ≡ None → IdsAscend es → IdsAscend (put_event e es)
ascend_put e [] none up = (tt, tt)
ascend_put e (x ∷ es) none up =
    let parts = not_there (eqb x.id e.id) (state_row x) (row_of_id e.id es) none in
    ascend_put_at e x es (nat_lt x.id e.id) refl parts.0 up.0 up.1 (ascend_put e es parts.1 up.1)

-- distinct ids ascend once they are put in order
ascend_by_id : (es : List EventState) → AreDistinct es → IdsAscend (by_id es)
ascend_by_id [] are = tt
ascend_by_id (e ∷ es) are = ascend_put e (by_id es) (find_by_id e.id es ∙ are.0) (ascend_by_id es are.1)

not_below : (a b : ℕ) (t : Bool) → a < b → nat_lt b a ≡ t → t ≡ false
not_below a b true h e = absurd (let low = ltb-true b a e in omega arith)
not_below a b false h e = refl

put_lowest : (e : EventState) (es : List EventState) → AllAbove e.id es → put_event e es ≡ e ∷ es
put_lowest e [] above = refl
put_lowest e (x ∷ es) above = ap (λ (b : Bool). cond b (x ∷ put_event e es) (e ∷ x ∷ es)) (not_below e.id x.id (nat_lt x.id e.id) above.0 refl)

-- ids that ascend are in order
pub by_id_same : (es : List EventState) → IdsAscend es → by_id es ≡ es
by_id_same [] up = refl
by_id_same (e ∷ es) up = ap (put_event e) (by_id_same es up.1) ∙ put_lowest e es up.0

some_event : (e f : EventState) → e.id ≡ f.id → ◌≡◌ {A = Option Row} (Some (state_row e)) (Some (state_row f)) → e ≡ f
some_event e f id rows =
    let same : state_row e ≡ state_row f = some_row (state_row e) (state_row f) rows in
    ap {B = EventState} (λ (i : ℕ). state_with i (state_row e)) id ∙ ap {B = EventState} (λ (r : Row). state_with f.id r) same

none_some : (row : Row) → ◌≡◌ {A = Option Row} None (Some row) → ⊥
none_some row h = let e = h in cc

first_same : (e f : EventState) (es fs : List EventState) → IdsAscend (e ∷ es) → IdsAscend (f ∷ fs) → ((id : ℕ) → row_of_id id (e ∷ es) ≡ row_of_id id (f ∷ fs)) → e.id < f.id → ⊥
first_same e f es fs ups upt same low =
    none_some (state_row e) (sym (none_above e.id (f ∷ fs) (low, above_lower e.id f.id fs (omega arith) upt.0)) ∙ (sym (same e.id) ∙ find_first e es))

later_same : (b : Bool) (e : EventState) (es fs : List EventState) (id : ℕ) → eqb e.id id ≡ b → row_of_id e.id es ≡ None → row_of_id e.id fs ≡ None
    → cond b (Some (state_row e)) (row_of_id id es) ≡ cond b (Some (state_row e)) (row_of_id id fs) → row_of_id id es ≡ row_of_id id fs
later_same true e es fs id h one other same = subst (λ (i : ℕ). row_of_id i es ≡ row_of_id i fs) (eqb-true e.id id h) (one ∙ sym other)
later_same false e es fs id h one other same = same

-- events with ascending ids that are found alike are the same
pub one_by_id : (es fs : List EventState) → IdsAscend es → IdsAscend fs → ((id : ℕ) → row_of_id id es ≡ row_of_id id fs) → es ≡ fs
one_by_id [] [] ups upt same = refl
one_by_id [] (f ∷ fs) ups upt same = absurd (none_some (state_row f) (same f.id ∙ find_first f fs))
one_by_id (e ∷ es) [] ups upt same = absurd (none_some (state_row e) (sym (same e.id) ∙ find_first e es))
one_by_id (e ∷ es) (f ∷ fs) ups upt same =
    let id : e.id ≡ f.id = elim (cases_lt e.id f.id) [
      | inl low ↦ absurd (first_same e f es fs ups upt same low)
      | inr high ↦ elim (cases_lt f.id e.id) [
        | inl low ↦ absurd (first_same f e fs es upt ups (λ i. sym (same i)) low)
        | inr low ↦ omega arith
      ]
    ] in
    let here : e ≡ f = some_event e f id (sym (find_first e es) ∙ (same e.id ∙ (ap (λ (i : ℕ). row_of_id i (f ∷ fs)) id ∙ find_first f fs))) in
    let again : (i : ℕ) → row_of_id i (e ∷ es) ≡ row_of_id i (e ∷ fs) = λ i. same i ∙ ap (λ (x : EventState). row_of_id i (x ∷ fs)) (sym here) in
    let upt' : IdsAscend (e ∷ fs) = subst (λ (x : EventState). IdsAscend (x ∷ fs)) (sym here) upt in
    let rest : es ≡ fs = one_by_id es fs ups.1 upt'.1 (λ i. later_same (eqb e.id i) e es fs i refl (none_above e.id es ups.0) (none_above e.id fs upt'.0) (again i)) in
    ap (λ (xs : List EventState). e ∷ xs) rest ∙ ap (λ (x : EventState). x ∷ fs) here

-- ---- what accepted lines know

-- the rows of events: their begins are finite, and not above their ends
pub record IsSpan (row : Row) : Type 0 where
  pub begins : row.begin < FOREVER
  pub lasts : row.begin ≤ row.end
  pub ends : row.end ≤ FOREVER

HaveSpans : List EventLine → Type 0
HaveSpans xs = (id : ℕ) (row : Row) → event_with id xs ≡ Some row → IsSpan row

version_span : (event : Option Row) (b : Bool) (row found : Row) → ((r : Row) → event ≡ Some r → IsSpan r) → IsRow row → cond b (Some row) event ≡ Some found → IsSpan found
version_span event true row found old is h = subst IsSpan (some_row row found h) (let l = is.lives in record { begins = is.begins; lasts = omega arith; ends = is.ends })
version_span event false row found old is h = old found h

test_parts : (b : Bool) (row : Row) (end mark : ℕ) → (nat_le row.begin end && nat_lt end row.end) ≡ b → cond b (guarantee_fault end mark) (Some (BadEnd row.begin row.end)) ≡ None → (row.begin ≤ end) × (end < row.end)
test_parts true row end mark test h = let p = and_parts (nat_le row.begin end) (nat_lt end row.end) test in (leb-true row.begin end p.0, ltb-true end row.end p.1)
test_parts false row end mark test h = absurd (let e = h in cc)

cut_span : (event : Option Row) (t : Bool) (end mark : ℕ) (found : Row) → ((r : Row) → event ≡ Some r → IsSpan r) → (t ≡ true → retraction_fault event end mark ≡ None) → cond t (option_map (ended end) event) event ≡ Some found → IsSpan found
cut_span (Some r) true end mark found old ok h =
    let p = test_parts (nat_le r.begin end && nat_lt end r.end) r end mark refl (ok refl) in
    let low = p.0 in
    let s = old r refl in
    let top = s.ends in
    let long = s.lasts in
    subst IsSpan (some_row (ended end r) found h) (record { begins = s.begins; lasts = omega arith; ends = omega arith })
cut_span None true end mark found old ok h = absurd (let e = h in cc)
cut_span event false end mark found old ok h = old found h

span_after : (xs : List EventLine) (line : EventLine) → HaveSpans xs → IsAccepted xs line → HaveSpans (xs ++ line ∷ [])
unfolding HaveSpans
span_after xs (Insert other row) spans accepted id found h = version_span (event_with id xs) (eqb other id) row found (spans id) accepted.event (sym (event-push id xs (Insert other row)) ∙ h)
span_after xs (Retract other end) spans accepted id found h =
    cut_span (event_with id xs) (eqb other id) end (guarantee_of xs) found (spans id) (λ here. ap (λ (k : ℕ). retraction_fault (event_with k xs) end (guarantee_of xs)) (sym (eqb-true other id here)) ∙ accepted.faultless) (sym (event-push id xs (Retract other end)) ∙ h)
span_after xs (Revise other row) spans accepted id found h = version_span (event_with id xs) (eqb other id) row found (spans id) accepted.event (sym (event-push id xs (Revise other row)) ∙ h)
span_after xs (Promise time) spans accepted id found h = spans id found (sym (event-push id xs (Promise time)) ∙ h)

spans_behind : (before lines : List EventLine) → HaveSpans before → AreAcceptedBehind before lines → HaveSpans (before ++ lines)
spans_behind before [] spans accepted = subst HaveSpans (sym (append-nil before)) spans
spans_behind before (line ∷ lines) spans accepted =
    subst HaveSpans (append_assoc before (line ∷ []) lines) (spans_behind (before ++ line ∷ []) lines (span_after before line spans accepted.0) accepted.1)

no_spans : HaveSpans []
unfolding HaveSpans
no_spans id row h = absurd (let e = h in cc)

event_span : (lines : List EventLine) → AreAccepted lines → (id : ℕ) (row : Row) → event_with id lines ≡ Some row → IsSpan row
unfolding HaveSpans
event_span lines accepted = spans_behind [] lines no_spans accepted

-- accepted lines are apart
pub known_lines : (lines : List EventLine) → AreAccepted lines → AreKnown lines
known_lines lines accepted = (accepted_messages lines accepted).all.known

-- ---- the events of accepted lines

found_next : (b : Bool) (first d : Row) (rows : List Row) (place : Option ℕ) (rest : Option Row) → rest ≡ option_map (λ (p : ℕ). as_it_is (get_or rows p d)) place
    → cond b (Some (as_it_is first)) rest ≡ option_map (λ (p : ℕ). as_it_is (get_or (first ∷ rows) p d)) (cond b (Some 0) (option_map (λ (n : ℕ). suc n) place))
found_next true first d rows place rest h = refl
found_next false first d rows None rest h = h
found_next false first d rows (Some p) rest h = h

found : (id : ℕ) (lines : List EventLine) (d : Row) → row_of_id id (events_among lines) ≡ option_map (λ (p : ℕ). as_it_is (get_or (rows_among lines) p d)) (place_of_event id lines)
found id [] d = refl
found id (Insert other row ∷ lines) d = found_next (eqb other id) (row_now other row lines) d (rows_among lines) (place_of_event id lines) (row_of_id id (events_among lines)) (found id lines d)
found id (Retract other end ∷ lines) d = found id lines d
found id (Revise other row ∷ lines) d = found id lines d
found id (Promise time ∷ lines) d = found id lines d

mapped_twice : (rows : List Row) (d : Row) (place : Option ℕ) → option_map (λ (p : ℕ). as_it_is (get_or rows p d)) place ≡ option_map as_it_is (option_map (λ (p : ℕ). get_or rows p d) place)
mapped_twice rows d None = refl
mapped_twice rows d (Some p) = refl

-- an event of the state is the one that the lines know
pub found_known : (id : ℕ) (lines : List EventLine) → AreKnown lines → row_of_id id (by_id (events_among lines)) ≡ known_of id lines
found_known id lines known =
    find_by_id id (events_among lines)
    ∙ (found id lines no_row ∙ (mapped_twice (rows_among lines) no_row (place_of_event id lines) ∙ ap (option_map as_it_is) (sym (event_place id lines no_row known))))

distinct_among : (lines : List EventLine) → AreApart lines → AreDistinct (events_among lines)
distinct_among [] apart = tt
distinct_among (Insert id row ∷ lines) apart = (found id lines no_row ∙ ap (option_map (λ (p : ℕ). as_it_is (get_or (rows_among lines) p no_row))) apart.0, distinct_among lines apart.1)
distinct_among (Retract id end ∷ lines) apart = distinct_among lines apart
distinct_among (Revise id row ∷ lines) apart = distinct_among lines apart
distinct_among (Promise time ∷ lines) apart = distinct_among lines apart

-- the ids of the state ascend
pub ascend_state : (lines : List EventLine) → AreKnown lines → IdsAscend (by_id (events_among lines))
ascend_state lines known = ascend_by_id (events_among lines) (distinct_among lines known.apart)

-- lines whose states are the same know the same
pub same_from : (xs ys : List EventLine) → AreAccepted xs → AreAccepted ys → state_of xs ≡ state_of ys → SameState xs ys
same_from xs ys accepted accepted' same = record {
  mark = ap (λ (s : State). s.mark) same;
  events = λ id.
      sym (found_known id xs (known_lines xs accepted))
      ∙ (ap (λ (s : State). row_of_id id s.events) same ∙ found_known id ys (known_lines ys accepted'));
}

-- ---- the state of accepted lines is fit

as_span : (row : Row) (b : Bool) → IsSpan row → IsSpan (cond b row (record row { payload = [] }))
as_span row true s = s
as_span row false s = record { begins = s.begins; lasts = s.lasts; ends = s.ends }

map_span : (event : Option Row) (is : Row) → ((r : Row) → event ≡ Some r → IsSpan r) → option_map as_it_is event ≡ Some is → IsSpan is
map_span None is s h = absurd (let e = h in cc)
map_span (Some r) is s h = subst IsSpan (some_row (as_it_is r) is h) (as_span r (row_lives r) (s r refl))

bare_at : (row : Row) (b : Bool) → row_lives row ≡ b → row.end ≤ row.begin → (cond b row (record row { payload = [] })).payload ≡ []
bare_at row true h low = absurd (let alive = ltb-true row.begin row.end h in omega arith)
bare_at row false h low = refl

as_bare : (row : Row) → (as_it_is row).end ≤ (as_it_is row).begin → (as_it_is row).payload ≡ []
as_bare row low = bare (row_lives row) refl low where
  bare : (b : Bool) → row_lives row ≡ b → (cond b row (record row { payload = [] })).end ≤ (cond b row (record row { payload = [] })).begin → (cond b row (record row { payload = [] })).payload ≡ []
  bare true h low = bare_at row true h low
  bare false h low = refl

map_bare : (event : Option Row) (is : Row) → option_map as_it_is event ≡ Some is → is.end ≤ is.begin → is.payload ≡ []
map_bare None is h = absurd (let e = h in cc)
map_bare (Some r) is h = subst (λ (row : Row). row.end ≤ row.begin → row.payload ≡ []) (some_row (as_it_is r) is h) (as_bare r)

-- what holds of each event that is found holds of all
each_found : (P : EventState → Type 0) (es : List EventState) → AreDistinct es → ((e : EventState) → row_of_id e.id es ≡ Some (state_row e) → P e) → All P es
each_found P [] distinct holds k d within = absurd (omega arith)
each_found P (e ∷ es) distinct holds zero d within = holds e (find_first e es)
each_found P (e ∷ es) distinct holds (suc k) d within = each_found P es distinct.1 (λ x there. holds x (find_later e es x.id (state_row x) distinct.0 there)) k d (omega arith)

pub guarantee_time : (before lines : List EventLine) → AreAcceptedBehind before lines → guarantee_of lines ≤ FOREVER
guarantee_time before [] accepted = omega arith
guarantee_time before (Insert id row ∷ lines) accepted = guarantee_time (before ++ Insert id row ∷ []) lines accepted.1
guarantee_time before (Retract id end ∷ lines) accepted = guarantee_time (before ++ Retract id end ∷ []) lines accepted.1
guarantee_time before (Revise id row ∷ lines) accepted = guarantee_time (before ++ Revise id row ∷ []) lines accepted.1
guarantee_time before (Promise time ∷ lines) accepted = let t : time ≤ FOREVER = accepted.0.event in let rest = guarantee_time (before ++ Promise time ∷ []) lines accepted.1 in omega arith

-- the state of accepted lines is fit, and its withdrawn events have no fields
pub fit_state : (lines : List EventLine) → AreAccepted lines → IsFit (state_of lines) × HasBare (state_of lines)
fit_state lines accepted =
    let known = known_lines lines accepted in
    let up = ascend_state lines known in
    let es = by_id (events_among lines) in
    let distinct = ascend_distinct (by_id (events_among lines)) up in (
      record {
        ascend = pairs_from (by_id (events_among lines)) up;
        sound = each_found IsState (by_id (events_among lines)) distinct (λ e there.
            let s = map_span (event_with e.id lines) (state_row e) (event_span lines accepted e.id) (sym (found_known e.id lines known) ∙ there) in
            record { begins = s.begins; lasts = s.lasts; ends = s.ends });
        time = guarantee_time [] lines accepted;
      },
      each_found IsBareEvent (by_id (events_among lines)) distinct (λ e there. map_bare (event_with e.id lines) (state_row e) (sym (found_known e.id lines known) ∙ there)),
    )

-- ---- the lines of a state

-- events that a state may have
pub record CanRestore (events : List EventState) : Type 0 where
  pub distinct : AreDistinct events
  pub spans : (id : ℕ) (row : Row) → row_of_id id events ≡ Some row → IsSpan row

span_at : (e : EventState) (b : Bool) (rest : Option Row) (row : Row) → IsState e → (rest ≡ Some row → IsSpan row) → cond b (Some (state_row e)) rest ≡ Some row → IsSpan row
span_at e true rest row s later is = subst IsSpan (some_row (state_row e) row is) (record { begins = s.begins; lasts = s.lasts; ends = s.ends })
span_at e false rest row s later is = later is

spans_of : (es : List EventState) → All IsState es → (id : ℕ) (row : Row) → row_of_id id es ≡ Some row → IsSpan row
spans_of [] all id row h = absurd (let e = h in cc)
spans_of (e ∷ es) all id row h = span_at e (eqb e.id id) (row_of_id id es) row (all 0 e (omega arith)) (λ later. spans_of es (λ k d within. all (suc k) d (omega arith)) id row later) h

-- a fit state has such events
pub can_restore : (state : State) → IsFit state → CanRestore state.events
can_restore state fit = record { distinct = ascend_distinct state.events (ascend_from state.events fit.ascend); spans = spans_of state.events fit.sound }

inserted_is : (row : Row) (b : Bool) → row_lives row ≡ b → IsSpan row → IsRow (cond b row (record row { end = row.begin + 1 }))
inserted_is row true h s = record { lives = ltb-true row.begin row.end h; begins = s.begins; ends = s.ends }
inserted_is row false h s = let b = s.begins in record { lives = omega arith; begins = s.begins; ends = omega arith }

none_fault : (event : Option Row) (begin mark : ℕ) → event ≡ None → mark ≡ 0 → cond (is_some event) (Some KnownId) (guarantee_fault begin mark) ≡ None
none_fault event begin mark none zero_mark =
    ap (λ (o : Option Row). cond (is_some o) (Some KnownId) (guarantee_fault begin mark)) none ∙ (ap (λ (m : ℕ). guarantee_fault begin m) zero_mark ∙ at (nat_lt begin 0) refl) where
      at : (b : Bool) → nat_lt begin 0 ≡ b → guarantee_fault begin 0 ≡ None
      at true h = absurd (let l = ltb-true begin 0 h in omega arith)
      at false h = ap (λ (b : Bool). cond b (Some (BeforeGuarantee begin 0)) None) h

record Inserted (before : List EventLine) (es : List EventState) : Type 0 where
  accepted : AreAcceptedBehind before (inserts es)
  events : (id : ℕ) → event_with id (before ++ inserts es) ≡ option_or (option_map inserted_row (row_of_id id es)) (event_with id before)
  mark : guarantee_of (before ++ inserts es) ≡ 0

put_first : (b : Bool) (row : Row) (rest event : Option Row) → (b ≡ true → rest ≡ None)
    → option_or (option_map inserted_row rest) (cond b (Some (inserted_row row)) event) ≡ option_or (option_map inserted_row (cond b (Some row) rest)) event
put_first true row rest event none = ap (λ (o : Option Row). option_or (option_map inserted_row o) (Some (inserted_row row))) (none refl)
put_first false row rest event none = refl

inserted_none : (event : Option Row) (b : Bool) (row : Row) → event ≡ None → b ≡ false → cond b (Some row) event ≡ None
inserted_none event b row h k = ap (λ (c : Bool). cond c (Some row) event) k ∙ h

inserts_go : (before : List EventLine) (es : List EventState) → guarantee_of before ≡ 0 → CanRestore es → ((id : ℕ) (row : Row) → row_of_id id es ≡ Some row → event_with id before ≡ None) → Inserted before es
inserts_go before [] zero_mark can apart = record {
  accepted = tt;
  events = λ id. ap (λ (ls : List EventLine). event_with id ls) (append-nil before);
  mark = ap guarantee_of (append-nil before) ∙ zero_mark;
}
inserts_go before (e ∷ es) zero_mark can apart =
    let row = state_row e in
    let row_is = inserted_is (state_row e) (row_lives (state_row e)) refl (can.spans e.id (state_row e) (find_first e es)) in
    let line = Insert e.id (inserted_row (state_row e)) in
    let one : IsAccepted before (Insert e.id (inserted_row (state_row e))) = record {
      event = row_is;
      faultless = none_fault (event_with e.id before) (inserted_row (state_row e)).begin (guarantee_of before) (apart e.id (state_row e) (find_first e es)) zero_mark;
    } in
    let none = can.distinct.0 in
    let rest = inserts_go (before ++ Insert e.id (inserted_row (state_row e)) ∷ []) es (let z = zero_mark in omega (arith, guarantee_of-append before (Insert e.id (inserted_row (state_row e)) ∷ [])))
    (record { distinct = can.distinct.1; spans = λ id row h. can.spans id row (find_later e es id row none h) })
    (λ id row h. event-push id before (Insert e.id (inserted_row (state_row e))) ∙ inserted_none (event_with id before) (eqb e.id id) (inserted_row (state_row e)) (apart id row (find_later e es id row none h)) (not_first e es id row none h)) in
    let seam = append_assoc before (Insert e.id (inserted_row (state_row e)) ∷ []) (inserts es) in
    record {
      accepted = (one, rest.accepted);
      events = λ id.
          ap (λ (ls : List EventLine). event_with id ls) (sym seam)
          ∙ (rest.events id
          ∙ (ap (λ (o : Option Row). option_or (option_map inserted_row (row_of_id id es)) o) (event-push id before (Insert e.id (inserted_row (state_row e))))
          ∙ put_first (eqb e.id id) (state_row e) (row_of_id id es) (event_with id before) (λ here. ap (λ (i : ℕ). row_of_id i es) (sym (eqb-true e.id id here)) ∙ none)));
      mark = ap guarantee_of (sym seam) ∙ rest.mark;
    }

record Retracted (before lines : List EventLine) (es : List EventState) : Type 0 where
  accepted : AreAcceptedBehind before lines
  events : (id : ℕ) → event_with id (before ++ lines) ≡ option_or (row_of_id id es) (event_with id before)
  mark : guarantee_of (before ++ lines) ≡ 0

inserted_living : (row : Row) → row_lives row ≡ true → inserted_row row ≡ row
inserted_living row h = ap (λ (b : Bool). cond b row (record row { end = row.begin + 1 })) h

inserted_gone : (row : Row) → row_lives row ≡ false → inserted_row row ≡ record row { end = row.begin + 1 }
inserted_gone row h = ap (λ (b : Bool). cond b row (record row { end = row.begin + 1 })) h

-- a withdrawn row as it was inserted, cut to its begin
cut_back : (row : Row) → row_lives row ≡ false → IsSpan row → ended row.begin (inserted_row row) ≡ row
cut_back row h s =
    let low = ltb-false row.begin row.end h in
    let long = s.lasts in
    let same : min row.begin (row.begin + 1) ≡ row.end = omega arith in
    ap (ended row.begin) (inserted_gone row h) ∙ ap (λ (e : ℕ). record row { end = e }) same

living_first : (b : Bool) (row : Row) (rest event : Option Row) → (b ≡ true → (rest ≡ None) × (event ≡ Some row)) → option_or rest event ≡ option_or (cond b (Some row) rest) event
living_first true row rest event h = ap (λ (o : Option Row). option_or o event) (h refl).0 ∙ (h refl).1
living_first false row rest event h = refl

gone_first : (b : Bool) (end : ℕ) (row : Row) (rest event : Option Row) → (b ≡ true → (rest ≡ None) × (option_map (ended end) event ≡ Some row)) → option_or rest (cond b (option_map (ended end) event) event) ≡ option_or (cond b (Some row) rest) event
gone_first true end row rest event h = ap (λ (o : Option Row). option_or o (option_map (ended end) event)) (h refl).0 ∙ (h refl).1
gone_first false end row rest event h = refl

cut_ok : (row : Row) (mark : ℕ) → row_lives row ≡ false → mark ≡ 0 → retraction_fault (Some (inserted_row row)) row.begin mark ≡ None
cut_ok row mark h zero_mark =
    ap (λ (r : Row). retraction_fault (Some r) row.begin mark) (inserted_gone row h)
    ∙ (ap (λ (b : Bool). cond b (guarantee_fault row.begin mark) (Some (BadEnd row.begin (row.begin + 1)))) (and_from (nat_le row.begin row.begin) (nat_lt row.begin (row.begin + 1)) (le-leb row.begin row.begin (omega arith)) (lt-ltb row.begin (row.begin + 1) (omega arith)))
    ∙ none_fault None row.begin mark refl zero_mark)

module _ (before : List EventLine) (e : EventState) (es : List EventState) (zero_mark : guarantee_of before ≡ 0) (can : CanRestore (e ∷ es))
    (there : (id : ℕ) (row : Row) → row_of_id id (e ∷ es) ≡ Some row → event_with id before ≡ Some (inserted_row row))
    (rest : (front : List EventLine) → guarantee_of front ≡ 0 → CanRestore es → ((id : ℕ) (row : Row) → row_of_id id es ≡ Some row → event_with id front ≡ Some (inserted_row row)) → Retracted front (retracts es) es) where
  others : CanRestore es
  others = record { distinct = can.distinct.1; spans = λ id row h. can.spans id row (find_later e es id row can.distinct.0 h) }

  none_here : (id : ℕ) → eqb e.id id ≡ true → row_of_id id es ≡ None
  none_here id here = ap (λ (i : ℕ). row_of_id i es) (sym (eqb-true e.id id here)) ∙ can.distinct.0

  event_here : (id : ℕ) → eqb e.id id ≡ true → event_with id before ≡ Some (inserted_row (state_row e))
  event_here id here = ap (λ (i : ℕ). event_with i before) (sym (eqb-true e.id id here)) ∙ there e.id (state_row e) (find_first e es)

  retract_at : (b : Bool) → row_lives (state_row e) ≡ b → Retracted before (cond b (retracts es) (Retract e.id e.begin ∷ retracts es)) (e ∷ es)
  retract_at true living =
      let r = rest before zero_mark others (λ id row h. there id row (find_later e es id row can.distinct.0 h)) in
      record {
        accepted = r.accepted;
        events = λ id. r.events id
            ∙ living_first (eqb e.id id) (state_row e) (row_of_id id es) (event_with id before) (λ here. (none_here id here, event_here id here ∙ ap (λ (x : Row). Some x) (inserted_living (state_row e) living)));
        mark = r.mark;
      }
  retract_at false gone =
      let span = can.spans e.id (state_row e) (find_first e es) in
      let begins = span.begins in
      let one : IsAccepted before (Retract e.id e.begin) = record {
        event = omega arith;
        faultless = ap (λ (o : Option Row). retraction_fault o e.begin (guarantee_of before)) (event_here e.id (eqb_itself e.id)) ∙ cut_ok (state_row e) (guarantee_of before) gone zero_mark;
      } in
      let r = rest (before ++ Retract e.id e.begin ∷ []) (let z = zero_mark in omega (arith, guarantee_of-append before (Retract e.id e.begin ∷ []))) others
      (λ id row h. event-push id before (Retract e.id e.begin)
      ∙ (ap (λ (b : Bool). cond b (option_map (ended e.begin) (event_with id before)) (event_with id before)) (not_first e es id row can.distinct.0 h) ∙ there id row (find_later e es id row can.distinct.0 h))) in
      let seam = append_assoc before (Retract e.id e.begin ∷ []) (retracts es) in
      record {
        accepted = (one, r.accepted);
        events = λ id.
            ap (λ (ls : List EventLine). event_with id ls) (sym seam)
            ∙ (r.events id
            ∙ (ap (λ (o : Option Row). option_or (row_of_id id es) o) (event-push id before (Retract e.id e.begin))
            ∙ gone_first (eqb e.id id) e.begin (state_row e) (row_of_id id es) (event_with id before)
            (λ here. (none_here id here, ap (λ (o : Option Row). option_map (ended e.begin) o) (event_here id here) ∙ ap (λ (x : Row). Some x) (cut_back (state_row e) gone span)))));
        mark = ap guarantee_of (sym seam) ∙ r.mark;
      }

retracts_go : (es : List EventState) (before : List EventLine) → guarantee_of before ≡ 0 → CanRestore es → ((id : ℕ) (row : Row) → row_of_id id es ≡ Some row → event_with id before ≡ Some (inserted_row row)) → Retracted before (retracts es) es
retracts_go [] before zero_mark can there = record {
  accepted = tt;
  events = λ id. ap (λ (ls : List EventLine). event_with id ls) (append-nil before);
  mark = ap guarantee_of (append-nil before) ∙ zero_mark;
}
retracts_go (e ∷ es) before zero_mark can there = retract_at before e es zero_mark can there (λ front z c t. retracts_go es front z c t) (row_lives (state_row e)) refl

pub accepted-append : (before xs ys : List EventLine) → AreAcceptedBehind before xs → AreAcceptedBehind (before ++ xs) ys → AreAcceptedBehind before (xs ++ ys)
accepted-append before [] ys h k = subst (λ (b : List EventLine). AreAcceptedBehind b ys) (append-nil before) k
accepted-append before (x ∷ xs) ys h k = (h.0, accepted-append (before ++ x ∷ []) xs ys h.1 (subst (λ (b : List EventLine). AreAcceptedBehind b ys) (sym (append_assoc before (x ∷ []) xs)) k))

either : (o : Option Row) → option_or o (option_or (option_map inserted_row o) None) ≡ o
either None = refl
either (Some r) = refl

module _ (events : List EventState) (mark : ℕ) (can : CanRestore events) (time : mark ≤ FOREVER) where
  inserted : Inserted [] events
  inserted = inserts_go [] events refl can (λ id row h. refl)

  first_events : (id : ℕ) (row : Row) → row_of_id id events ≡ Some row → event_with id (inserts events) ≡ Some (inserted_row row)
  first_events id row h = inserted.events id ∙ ap (λ (o : Option Row). option_or (option_map inserted_row o) None) h

  retracted : Retracted (inserts events) (retracts events) events
  retracted = retracts_go events (inserts events) inserted.mark can first_events

  front_accepted : AreAccepted (inserts events ++ retracts events)
  front_accepted = accepted-append [] (inserts events) (retracts events) inserted.accepted retracted.accepted

  -- they are accepted
  pub spelt_accepted : AreAccepted (lines_of (record { mark = mark; events = events }))
  spelt_accepted = accepted-append [] (inserts events ++ retracts events) (Promise mark ∷ []) front_accepted (record { event = time; faultless = refl }, tt)

  -- and each event is then as it was
  pub spelt_event : (id : ℕ) → event_with id (lines_of (record { mark = mark; events = events })) ≡ row_of_id id events
  spelt_event id =
      event-push id (inserts events ++ retracts events) (Promise mark)
      ∙ (retracted.events id ∙ (ap (λ (o : Option Row). option_or (row_of_id id events) o) (inserted.events id) ∙ either (row_of_id id events)))

  pub spelt_mark : guarantee_of (lines_of (record { mark = mark; events = events })) ≡ mark
  spelt_mark = let z = retracted.mark in omega (arith, guarantee_of-append (inserts events ++ retracts events) (Promise mark ∷ []))

as_twice : (o : Option Row) → option_map as_it_is (option_map as_it_is o) ≡ option_map as_it_is o
as_twice None = refl
as_twice (Some r) = ap (λ (x : Row). Some x) (at (row_lives r) refl) where
  at : (b : Bool) → row_lives r ≡ b → as_it_is (as_it_is r) ≡ as_it_is r
  at true h = as_living (as_it_is r) (lives_as r ∙ h)
  at false h = as_gone (as_it_is r) (lives_as r ∙ h) ∙ (ap (λ (x : Row). record x { payload = [] }) (as_gone r h) ∙ sym (as_gone r h))

-- the lines of the state of accepted lines are accepted, and have that state
pub spelt_same : (lines : List EventLine) → AreAccepted lines → AreAccepted (lines_of (state_of lines)) × SameState lines (lines_of (state_of lines))
spelt_same lines accepted =
    let can = can_restore (state_of lines) (fit_state lines accepted).0 in
    let time = guarantee_time [] lines accepted in
    let known = known_lines lines accepted in (
      spelt_accepted (by_id (events_among lines)) (guarantee_of lines) can time,
      record {
        mark = sym (spelt_mark (by_id (events_among lines)) (guarantee_of lines) can time);
        events = λ id.
            sym (ap (λ (o : Option Row). option_map as_it_is o) (spelt_event (by_id (events_among lines)) (guarantee_of lines) can time id ∙ found_known id lines known) ∙ as_twice (event_with id lines));
      },
    )
