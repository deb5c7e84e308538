-- The lines of a state's events are no longer than the accepted lines that lead to it.
use Rattle.std.proofs.Common.{◌≡◌, ℕ, suc, ◌+◌, ◌≤◌, List, [], ◌∷◌, ◌++◌, Bool, true, false, cond, eqb, length, min, Option, None, Some, IfSome, refl, ap, sym, ◌∙◌, arith, inl, inr}
use Rattle.std.specs.Prelude.{unwrap_or}
use Rattle.std.proofs.lemmas.Bool.{cases_lt, eqb-true, eq-eqb}
use Rattle.cedr_base.specs.declared.row.Row.{Row}
use Rattle.cedr_text.specs.declared.event_line.EventLine.{EventLine}
use Rattle.cedr_text.specs.declared.event_line.EventLine.TheVariants.{Insert, Retract, Revise, Promise}
use Rattle.cedr_text.specs.Texts.{time_text}
use Rattle.cedr_guard.specs.declared.state.EventState.{EventState}
use Rattle.cedr_guard.specs.Judging.{ends_of, least_end, row_after, event_with, row_lives, AreAccepted}
use Rattle.cedr_guard.specs.States.{as_it_is}
use Rattle.cedr_guard.specs.Spelt.{state_row, state_with, events_among, by_id, state_of, row_of_id}
use Rattle.cedr_guard.proofs.EventLemmas.{row_now}
use Rattle.cedr_guard.proofs.SpeltLemmas.{AreDistinct, can_restore, fit_state}
use Rattle.cedr_save.specs.Checkpoints.{event_line}
use Rattle.cedr_save.proofs.LineReadings.{row_size, row_length, line_size}
use Rattle.cedr_save.proofs.SavedStates.{EachEvent, each_by_id}

-- how many bytes lines have
abbrev pub lines_size : List EventLine → ℕ
lines_size [] = 0
lines_size (line ∷ lines) = line_size line + lines_size lines

pub size-append : (xs ys : List EventLine) → lines_size (xs ++ ys) ≡ lines_size xs + lines_size ys
size-append [] ys = omega arith
size-append (x ∷ xs) ys = omega (arith, size-append xs ys)

-- how many bytes the lines of events have, with their line feeds
abbrev pub events_size : List EventState → ℕ
events_size [] = 0
events_size (e ∷ es) = suc (length (event_line e)) + events_size es

-- ---- the lines about one event

-- a line is about the event with this id
abbrev is_about : ℕ → EventLine → Bool
is_about id (Insert other row) = eqb other id
is_about id (Retract other end) = eqb other id
is_about id (Revise other row) = eqb other id
is_about id (Promise time) = false

-- how many bytes a line has, if it is about this event
abbrev size_about : ℕ → EventLine → ℕ
size_about id line = cond (is_about id line) (line_size line) 0

-- how many bytes the lines about this event have
abbrev own_size : ℕ → List EventLine → ℕ
own_size id [] = 0
own_size id (line ∷ lines) = size_about id line + own_size id lines

lesser_text : (a b : ℕ) → length (time_text (min a b)) ≤ length (time_text a) + length (time_text b)
lesser_text a b = elim (cases_lt a b) [
  | inl low ↦ let same : min a b ≡ a = omega arith in omega (arith, ap (λ (t : ℕ). length (time_text t)) same)
  | inr high ↦ let same : min a b ≡ b = omega arith in omega (arith, ap (λ (t : ℕ). length (time_text t)) same)
]

least_at : (b : Bool) (end time : ℕ) (ends : List ℕ) (rest : ℕ) → length (time_text (least_end end ends)) ≤ length (time_text end) + rest
    → length (time_text (least_end end (cond b (time ∷ ends) ends))) ≤ length (time_text end) + (cond b (length (time_text time)) 0 + rest)
least_at true end time ends rest low = omega (arith, low, lesser_text time (least_end end ends))
least_at false end time ends rest low = omega (arith, low)

-- the least end is written in one of these lines
least_text : (id end : ℕ) (lines : List EventLine) → length (time_text (least_end end (ends_of id lines))) ≤ length (time_text end) + own_size id lines
least_text id end [] = omega arith
least_text id end (Insert other row ∷ lines) = omega (arith, least_text id end lines)
least_text id end (Retract other time ∷ lines) = least_at (eqb other id) end time (ends_of id lines) (own_size id lines) (least_text id end lines)
least_text id end (Revise other row ∷ lines) = omega (arith, least_text id end lines)
least_text id end (Promise time ∷ lines) = omega (arith, least_text id end lines)

after_short : (id : ℕ) (row : Row) (lines : List EventLine) → row_size id (row_after id row lines) ≤ row_size id row + own_size id lines
after_short id row lines = omega (arith, row_length id row, row_length id (row_after id row lines), least_text id row.end lines)

-- a row of at most so many bytes
abbrev IsShortRow : ℕ → ℕ → Row → Type 0
IsShortRow id len row = row_size id row ≤ len

row_within : (id low high : ℕ) (event : Option Row) → low ≤ high → IfSome event (IsShortRow id low) → IfSome event (IsShortRow id high)
row_within id low high None within is = tt
row_within id low high (Some row) within is = omega arith

now_short : (id len : ℕ) (event : Option Row) (row : Row) → IfSome event (IsShortRow id len) → row_size id row ≤ len → row_size id (unwrap_or event row) ≤ len
now_short id len None row is short = short
now_short id len (Some r) row is short = is

version_short : (b : Bool) (id other : ℕ) (row : Row) (lines : List EventLine) → eqb other id ≡ b → IfSome (event_with id lines) (IsShortRow id (own_size id lines))
    → IfSome (cond b (Some (row_now id row lines)) (event_with id lines)) (IsShortRow id (cond b (row_size other row) 0 + own_size id lines))
version_short true id other row lines same is =
    let here : row_size other row ≡ row_size id row = ap (λ (i : ℕ). row_size i row) (eqb-true other id same) in
    let all = row_size other row + own_size id lines in
    now_short id (row_size other row + own_size id lines) (event_with id lines) (row_after id row lines) (row_within id (own_size id lines) (row_size other row + own_size id lines) (event_with id lines) (omega arith) is)
    (omega (arith, here, after_short id row lines))
version_short false id other row lines same is = row_within id (own_size id lines) (0 + own_size id lines) (event_with id lines) (omega arith) is

-- the row of an event is no longer than the lines about it
event_short : (id : ℕ) (lines : List EventLine) → IfSome (event_with id lines) (IsShortRow id (own_size id lines))
event_short id [] = tt
event_short id (Insert other row ∷ lines) = version_short (eqb other id) id other row lines refl (event_short id lines)
event_short id (Retract other end ∷ lines) = row_within id (own_size id lines) (size_about id (Retract other end) + own_size id lines) (event_with id lines) (omega arith) (event_short id lines)
event_short id (Revise other row ∷ lines) = version_short (eqb other id) id other row lines refl (event_short id lines)
event_short id (Promise time ∷ lines) = row_within id (own_size id lines) (0 + own_size id lines) (event_with id lines) (omega arith) (event_short id lines)

as_short_at : (id : ℕ) (row : Row) (b : Bool) → row_size id (cond b row (record row { payload = [] })) ≤ row_size id row
as_short_at id row true = omega arith
as_short_at id row false = omega (arith, row_length id row, row_length id (record row { payload = [] }))

-- without its fields a row is no longer
as_short : (id : ℕ) (row : Row) → row_size id (as_it_is row) ≤ row_size id row
as_short id row = as_short_at id row (row_lives row)

-- the line of an event is no longer than the lines about it
abbrev IsCovered : List EventLine → EventState → Type 0
IsCovered lines e = suc (length (event_line e)) ≤ own_size e.id lines

more_covered : (line : EventLine) (lines : List EventLine) (es : List EventState) → EachEvent (IsCovered lines) es → EachEvent (IsCovered (line ∷ lines)) es
more_covered line lines [] each = tt
more_covered line lines (e ∷ es) each = let one = each.0 in (omega arith, more_covered line lines es each.1)

first_covered : (id : ℕ) (row : Row) (lines : List EventLine) → IsCovered (Insert id row ∷ lines) (state_with id (as_it_is (row_now id row lines)))
first_covered id row lines =
    let now = now_short id (row_size id row + own_size id lines) (event_with id lines) (row_after id row lines) (row_within id (own_size id lines) (row_size id row + own_size id lines) (event_with id lines) (omega arith) (event_short id lines)) (after_short id row lines) in
    omega (
      arith,
      as_short id (as_it_is (row_now id row lines)),
      as_short id (row_now id row lines),
      now,
      ap (λ (b : Bool). cond b (row_size id row) 0 + own_size id lines) (eq-eqb id id refl),
    )

each_covered : (lines : List EventLine) → EachEvent (IsCovered lines) (events_among lines)
each_covered [] = tt
each_covered (Insert id row ∷ lines) = (first_covered id row lines, more_covered (Insert id row) lines (events_among lines) (each_covered lines))
each_covered (Retract id end ∷ lines) = more_covered (Retract id end) lines (events_among lines) (each_covered lines)
each_covered (Revise id row ∷ lines) = more_covered (Revise id row) lines (events_among lines) (each_covered lines)
each_covered (Promise time ∷ lines) = more_covered (Promise time) lines (events_among lines) (each_covered lines)

-- ---- each line is about one event

-- how many bytes the lines about each of the events have together
abbrev own_sizes : List EventState → List EventLine → ℕ
own_sizes [] lines = 0
own_sizes (e ∷ es) lines = own_size e.id lines + own_sizes es lines

covered : (lines : List EventLine) (es : List EventState) → EachEvent (IsCovered lines) es → events_size es ≤ own_sizes es lines
covered lines [] each = omega arith
covered lines (e ∷ es) each = let one = each.0 in omega (arith, covered lines es each.1)

-- and how many bytes one line has for each event that it is about
abbrev sizes_about : List EventState → EventLine → ℕ
sizes_about [] line = 0
sizes_about (e ∷ es) line = size_about e.id line + sizes_about es line

own_split : (es : List EventState) (line : EventLine) (lines : List EventLine) → own_sizes es (line ∷ lines) ≡ sizes_about es line + own_sizes es lines
own_split [] line lines = omega arith
own_split (e ∷ es) line lines = omega (arith, own_split es line lines)

own_none : (es : List EventState) → own_sizes es [] ≡ 0
own_none [] = refl
own_none (e ∷ es) = omega (arith, own_none es)

same_id : (other a b : ℕ) → eqb other a ≡ true → eqb other b ≡ true → a ≡ b
same_id other a b one two = sym (eqb-true other a one) ∙ eqb-true other b two

about_one : (line : EventLine) (a b : ℕ) → is_about a line ≡ true → is_about b line ≡ true → a ≡ b
about_one (Insert other row) a b one two = same_id other a b one two
about_one (Retract other end) a b one two = same_id other a b one two
about_one (Revise other row) a b one two = same_id other a b one two
about_one (Promise time) a b one two = absurd (let e = one in cc)

none_parts : (b : Bool) (row : Row) (rest : Option Row) → cond b (Some row) rest ≡ None → (b ≡ false) × (rest ≡ None)
none_parts true row rest h = absurd (let e = h in cc)
none_parts false row rest h = (refl, h)

other_event : (b : Bool) (line : EventLine) (id other : ℕ) → is_about other line ≡ b → is_about id line ≡ true → eqb other id ≡ false → b ≡ false
other_event true line id other is here apart = absurd (let e = sym (eq-eqb other id (about_one line other id is here)) ∙ apart in cc)
other_event false line id other is here apart = refl

-- a line about one event is about none of the others
none_about : (es : List EventState) (line : EventLine) (id : ℕ) → is_about id line ≡ true → row_of_id id es ≡ None → sizes_about es line ≡ 0
none_about [] line id here none = refl
none_about (e ∷ es) line id here none =
    let parts = none_parts (eqb e.id id) (state_row e) (row_of_id id es) none in
    omega (arith, ap (λ (b : Bool). cond b (line_size line) 0) (other_event (is_about e.id line) line id e.id refl here parts.0), none_about es line id here parts.1)

about_at : (b : Bool) (es : List EventState) (line : EventLine) → (b ≡ true → sizes_about es line ≡ 0) → sizes_about es line ≤ line_size line → cond b (line_size line) 0 + sizes_about es line ≤ line_size line
about_at true es line none low = let z = none refl in omega arith
about_at false es line none low = omega arith

about_short : (es : List EventState) (line : EventLine) → AreDistinct es → sizes_about es line ≤ line_size line
about_short [] line distinct = omega arith
about_short (e ∷ es) line distinct = about_at (is_about e.id line) es line (λ here. none_about es line e.id here distinct.0) (about_short es line distinct.1)

-- so the lines about distinct events are no longer than all lines
own_short : (es : List EventState) (lines : List EventLine) → AreDistinct es → own_sizes es lines ≤ lines_size lines
own_short es [] distinct = omega (arith, own_none es)
own_short es (line ∷ lines) distinct = omega (arith, own_split es line lines, about_short es line distinct, own_short es lines distinct)

-- the lines of the events of a state are no longer than the accepted lines that lead to it
pub state_short : (lines : List EventLine) → AreAccepted lines → events_size (state_of lines).events ≤ lines_size lines
state_short lines accepted =
    let es = by_id (events_among lines) in
    let distinct = (can_restore (state_of lines) (fit_state lines accepted).0).distinct in
    omega (arith, covered lines es (each_by_id (IsCovered lines) (events_among lines) (each_covered lines)), own_short es lines distinct)
