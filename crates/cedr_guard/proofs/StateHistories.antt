-- The lines of a state have its events and its canonical history, and histories go on alike from lines of the same state and history.
use Rattle.std.proofs.Common.{◌≡◌, ℕ, suc, ◌+◌, List, [], ◌∷◌, ◌++◌, Bool, true, false, cond, map, filter, None, Some, refl, ap, sym, ◌∙◌, subst, arith, append_assoc, append-nil}
use Rattle.std.specs.Prelude.{nat_lt, All, sum_by}
use Rattle.std.proofs.lemmas.Bool.{ltb-false}
use Rattle.std.proofs.lemmas.List.Sums.{sum_by-cons}
use Rattle.cedr_base.specs.declared.row.Row.{Row}
use Rattle.cedr_base.specs.declared.change.Change.{Change}
use Rattle.cedr_base.specs.declared.change.Message.{Message}
use Rattle.cedr_base.specs.Rows.{one_if_same, count_of, in_order}
use Rattle.cedr_base.specs.Changes.{all_puts, all_takes}
use Rattle.cedr_base.specs.Messages.{changes_of, IsTableOf}
use Rattle.cedr_base.proofs.Bags.{count_of-append, count_of-cons}
use Rattle.cedr_base.proofs.Sorting.{same_in_order}
use Rattle.change_laws.proofs.Legal.{changes-append}
use Rattle.change_laws.proofs.RepairLemmas.{takes-append, puts-append}
use Rattle.cedr_text.specs.declared.event_line.EventLine.{EventLine}
use Rattle.cedr_text.specs.declared.event_line.EventLine.TheVariants.{Insert, Retract, Revise, Promise}
use Rattle.cedr_guard.specs.declared.state.EventState.{EventState}
use Rattle.cedr_guard.specs.Judging.{guarantee_of, event_with, row_lives, AreAccepted, AreAcceptedBehind}
use Rattle.cedr_guard.specs.History.{rows_among, history_of}
use Rattle.cedr_guard.specs.Messages.{line_messages, messages_behind}
use Rattle.cedr_guard.specs.States.{as_it_is, SameState}
use Rattle.cedr_guard.specs.Spelt.{State, state_row, state_with, events_among, put_event, by_id, state_of, row_of_id, IsFit, IsBareEvent, HasBare, inserted_row, inserts, retracts, lines_of}
use Rattle.cedr_guard.proofs.EventLemmas.{row_now}
use Rattle.cedr_guard.proofs.LivingLemmas.{in_order_count}
use Rattle.cedr_guard.proofs.MessageLemmas.{accepted_messages, table_is_history}
use Rattle.cedr_guard.proofs.StateLemmas.{some_row, lives_as, as_living, same_goes_on}
use Rattle.cedr_guard.proofs.SpeltLemmas.{AreDistinct, find_first, find_later, not_first, eqb_itself, accepted-append, CanRestore, can_restore, spelt_event, spelt_mark, spelt_accepted, ascend_from, by_id_same, fit_state}

abbrev rows_of : List EventState → List Row
rows_of events = map state_row events

-- ---- the rows and the events of the lines of a state

-- the event of an id is there behind the insertions of events
abbrev pub AreThere : List EventState → List EventLine → Type 0
AreThere es rest = (id : ℕ) (row : Row) → row_of_id id es ≡ Some row → event_with id (inserts es ++ rest) ≡ Some row

first_row : (e : EventState) (es : List EventState) (rest : List EventLine) → AreThere (e ∷ es) rest → row_now e.id (inserted_row (state_row e)) (inserts es ++ rest) ≡ state_row e
first_row e es rest there =
    some_row (row_now e.id (inserted_row (state_row e)) (inserts es ++ rest)) (state_row e)
    (sym (ap (λ (b : Bool). cond b (Some (row_now e.id (inserted_row (state_row e)) (inserts es ++ rest))) (event_with e.id (inserts es ++ rest))) (eqb_itself e.id)) ∙ there e.id (state_row e) (find_first e es))

later_there : (e : EventState) (es : List EventState) (rest : List EventLine) → row_of_id e.id es ≡ None → AreThere (e ∷ es) rest → AreThere es rest
later_there e es rest none there id row h =
    sym (ap (λ (b : Bool). cond b (Some (row_now id (inserted_row (state_row e)) (inserts es ++ rest))) (event_with id (inserts es ++ rest))) (not_first e es id row none h)) ∙ there id row (find_later e es id row none h)

rows_are : (rest : List EventLine) (es : List EventState) → AreDistinct es → AreThere es rest → rows_among (inserts es ++ rest) ≡ rows_of es ++ rows_among rest
rows_are rest [] distinct there = refl
rows_are rest (e ∷ es) distinct there =
    ap (λ (r : Row). r ∷ rows_among (inserts es ++ rest)) (first_row e es rest there)
    ∙ ap (λ (rs : List Row). state_row e ∷ rs) (rows_are rest es distinct.1 (later_there e es rest distinct.0 there))

bare_is : (e : EventState) (b : Bool) → row_lives (state_row e) ≡ b → IsBareEvent e → cond b (state_row e) (record (state_row e) { payload = [] }) ≡ state_row e
bare_is e true h bare = refl
bare_is e false h bare = ap (λ p. record (state_row e) { payload = p }) (sym (bare (ltb-false e.begin e.end h)))

events_are : (rest : List EventLine) (es : List EventState) → AreDistinct es → All IsBareEvent es → AreThere es rest → events_among (inserts es ++ rest) ≡ es ++ events_among rest
events_are rest [] distinct bare there = refl
events_are rest (e ∷ es) distinct bare there =
    let plain : as_it_is (state_row e) ≡ state_row e = bare_is e (row_lives (state_row e)) refl (bare 0 e (omega arith)) in
    ap (λ (r : Row). state_with e.id (as_it_is r) ∷ events_among (inserts es ++ rest)) (first_row e es rest there)
    ∙ (ap (λ (r : Row). state_with e.id r ∷ events_among (inserts es ++ rest)) plain
    ∙ ap (λ (xs : List EventState). e ∷ xs) (events_are rest es distinct.1 (λ k d within. bare (suc k) d (omega arith)) (later_there e es rest distinct.0 there)))

-- the lines behind the insertions
abbrev pub last_lines : List EventState → ℕ → List EventLine
last_lines events mark = retracts events ++ Promise mark ∷ []

no_rows_at : (e : EventState) (b : Bool) (lines last : List EventLine) → rows_among (lines ++ last) ≡ [] → rows_among (cond b lines (Retract e.id e.begin ∷ lines) ++ last) ≡ []
no_rows_at e true lines last none = none
no_rows_at e false lines last none = none

no_rows : (es : List EventState) (mark : ℕ) → rows_among (last_lines es mark) ≡ []
no_rows [] mark = refl
no_rows (e ∷ es) mark = no_rows_at e (row_lives (state_row e)) (retracts es) (Promise mark ∷ []) (no_rows es mark)

no_events_at : (e : EventState) (b : Bool) (lines last : List EventLine) → events_among (lines ++ last) ≡ [] → events_among (cond b lines (Retract e.id e.begin ∷ lines) ++ last) ≡ []
no_events_at e true lines last none = none
no_events_at e false lines last none = none

no_events : (es : List EventState) (mark : ℕ) → events_among (last_lines es mark) ≡ []
no_events [] mark = refl
no_events (e ∷ es) mark = no_events_at e (row_lives (state_row e)) (retracts es) (Promise mark ∷ []) (no_events es mark)

module _ (events : List EventState) (mark : ℕ) (fit : IsFit (record { mark = mark; events = events })) where
  can : CanRestore events
  can = can_restore (record { mark = mark; events = events }) fit

  -- the lines of a state, cut behind the insertions
  pub lines_are : lines_of (record { mark = mark; events = events }) ≡ inserts events ++ last_lines events mark
  lines_are = append_assoc (inserts events) (retracts events) (Promise mark ∷ [])

  there : AreThere events (last_lines events mark)
  there id row h = ap (λ (ls : List EventLine). event_with id ls) (sym lines_are) ∙ (spelt_event events mark can fit.time id ∙ h)

  -- the rows of the lines of a state are those of its events
  pub rows_spelt : rows_among (lines_of (record { mark = mark; events = events })) ≡ rows_of events
  rows_spelt =
      ap rows_among lines_are
      ∙ (rows_are (last_lines events mark) events can.distinct there ∙ (ap (λ (rs : List Row). rows_of events ++ rs) (no_rows events mark) ∙ append-nil (rows_of events)))

  events_spelt : All IsBareEvent events → events_among (lines_of (record { mark = mark; events = events })) ≡ events
  events_spelt bare =
      ap events_among lines_are
      ∙ (events_are (last_lines events mark) events can.distinct bare there ∙ (ap (λ (es : List EventState). events ++ es) (no_events events mark) ∙ append-nil events))

  itself : All IsBareEvent events → state_of (lines_of (record { mark = mark; events = events })) ≡ record { mark = mark; events = events }
  itself bare =
      ap {B = State} (λ (m : ℕ). record { mark = m; events = by_id (events_among (lines_of (record { mark = mark; events = events }))) }) (spelt_mark events mark can fit.time)
      ∙ ap {B = State} (λ (es : List EventState). record { mark = mark; events = es }) (ap by_id (events_spelt bare) ∙ by_id_same events (ascend_from events fit.ascend))

-- the lines of a fit state are accepted
pub fit_accepted : (state : State) → IsFit state → AreAccepted (lines_of state)
fit_accepted state fit = spelt_accepted state.events state.mark (can_restore state fit) fit.time

-- and have this state, where its withdrawn events have no fields
pub fit_itself : (state : State) → IsFit state → HasBare state → state_of (lines_of state) ≡ state
fit_itself state fit bare = itself state.events state.mark fit bare

-- ---- the same rows by ascending ids

weight_put_at : (w : Row → ℕ) (e x : EventState) (es : List EventState) (b : Bool) → sum_by w (rows_of (put_event e es)) ≡ sum_by w (state_row e ∷ rows_of es)
    → sum_by w (rows_of (cond b (x ∷ put_event e es) (e ∷ x ∷ es))) ≡ sum_by w (state_row e ∷ state_row x ∷ rows_of es)
weight_put_at w e x es true rest = omega (
  arith,
  rest,
  sum_by-cons w (state_row x) (rows_of (put_event e es)),
  sum_by-cons w (state_row e) (rows_of es),
  sum_by-cons w (state_row e) (state_row x ∷ rows_of es),
  sum_by-cons w (state_row x) (rows_of es),
)
weight_put_at w e x es false rest = refl

weight_put : (w : Row → ℕ) (e : EventState) (es : List EventState) → sum_by w (rows_of (put_event e es)) ≡ sum_by w (state_row e ∷ rows_of es)
weight_put w e [] = refl
weight_put w e (x ∷ es) = weight_put_at w e x es (nat_lt x.id e.id) (weight_put w e es)

weight_by_id : (w : Row → ℕ) (es : List EventState) → sum_by w (rows_of (by_id es)) ≡ sum_by w (rows_of es)
weight_by_id w [] = refl
weight_by_id w (e ∷ es) = weight_put w e (by_id es) ∙ omega (arith, weight_by_id w es, sum_by-cons w (state_row e) (rows_of (by_id es)), sum_by-cons w (state_row e) (rows_of es))

-- how much a row adds to the copies of another among the rows that live
abbrev living_weight : Row → Row → ℕ
living_weight r x = cond (row_lives x) (one_if_same r x) 0

kept_at : (r x : Row) (rows : List Row) (b : Bool) → count_of r (cond b (x ∷ rows) rows) ≡ cond b (one_if_same r x) 0 + count_of r rows
kept_at r x rows true = count_of-cons r x rows
kept_at r x rows false = omega arith

count_kept : (r : Row) (xs : List Row) → count_of r (filter row_lives xs) ≡ sum_by (living_weight r) xs
count_kept r [] = refl
count_kept r (x ∷ xs) = kept_at r x (filter row_lives xs) (row_lives x) ∙ omega (arith, count_kept r xs, sum_by-cons (living_weight r) x xs)

rows_as : (lines : List EventLine) → rows_of (events_among lines) ≡ map as_it_is (rows_among lines)
rows_as [] = refl
rows_as (Insert id row ∷ lines) = ap (λ (rs : List Row). as_it_is (row_now id row lines) ∷ rs) (rows_as lines)
rows_as (Retract id end ∷ lines) = rows_as lines
rows_as (Revise id row ∷ lines) = rows_as lines
rows_as (Promise time ∷ lines) = rows_as lines

living_at : (row : Row) (xs ys : List Row) (b : Bool) → row_lives row ≡ b → xs ≡ ys → cond (row_lives (as_it_is row)) (as_it_is row ∷ xs) xs ≡ cond (row_lives row) (row ∷ ys) ys
living_at row xs ys true h same =
    ap (λ (c : Bool). cond c (as_it_is row ∷ xs) xs) (lives_as row ∙ h)
    ∙ (ap (λ (r : Row). r ∷ xs) (as_living row h) ∙ (ap (λ (rs : List Row). row ∷ rs) same ∙ sym (ap (λ (c : Bool). cond c (row ∷ ys) ys) h)))
living_at row xs ys false h same = ap (λ (c : Bool). cond c (as_it_is row ∷ xs) xs) (lives_as row ∙ h) ∙ (same ∙ sym (ap (λ (c : Bool). cond c (row ∷ ys) ys) h))

living_rows : (rows : List Row) → filter row_lives (map as_it_is rows) ≡ filter row_lives rows
living_rows [] = refl
living_rows (r ∷ rows) = living_at r (filter row_lives (map as_it_is rows)) (filter row_lives rows) (row_lives r) refl (living_rows rows)

-- the lines of the state of accepted lines have their canonical history
pub spelt_history : (lines : List EventLine) → AreAccepted lines → history_of (lines_of (state_of lines)) ≡ history_of lines
spelt_history lines accepted =
    let fit = (fit_state lines accepted).0 in
    ap (λ (rs : List Row). in_order (filter row_lives rs)) (rows_spelt (by_id (events_among lines)) (guarantee_of lines) fit)
    ∙ same_in_order (filter row_lives (rows_of (by_id (events_among lines)))) (filter row_lives (rows_among lines)) (record {
      each = λ r.
          count_kept r (rows_of (by_id (events_among lines)))
          ∙ (weight_by_id (living_weight r) (events_among lines)
          ∙ (sym (count_kept r (rows_of (events_among lines)))
          ∙ ap (count_of r) (ap (filter row_lives) (rows_as lines) ∙ living_rows (rows_among lines))));
    })

-- ---- histories that go on

messages-append : (before xs ys : List EventLine) → messages_behind before (xs ++ ys) ≡ messages_behind before xs ++ messages_behind (before ++ xs) ys
messages-append before [] ys = ap (λ (b : List EventLine). messages_behind b ys) (sym (append-nil before))
messages-append before (x ∷ xs) ys =
    ap (λ (ms : List Message). line_messages before x ++ ms) (messages-append (before ++ x ∷ []) xs ys)
    ∙ (sym (append_assoc (line_messages before x) (messages_behind (before ++ x ∷ []) xs) (messages_behind ((before ++ x ∷ []) ++ xs) ys))
    ∙ ap (λ (b : List EventLine). (line_messages before x ++ messages_behind (before ++ x ∷ []) xs) ++ messages_behind b ys) (append_assoc before (x ∷ []) xs))

table_after : (xs lines : List EventLine) → AreAccepted xs → AreAcceptedBehind xs lines → IsTableOf (messages_behind [] xs ++ messages_behind xs lines) (history_of (xs ++ lines))
table_after xs lines accepted more =
    let all = accepted-append [] xs lines accepted more in
    subst (λ (ms : List Message). IsTableOf ms (history_of (xs ++ lines))) (messages-append [] xs lines) (table_is_history (xs ++ lines) (messages_behind [] (xs ++ lines)) (accepted_messages (xs ++ lines) all).all)

puts_parts : (r : Row) (xs ys : List Message) → count_of r (all_puts (changes_of (xs ++ ys))) ≡ count_of r (all_puts (changes_of xs)) + count_of r (all_puts (changes_of ys))
puts_parts r xs ys = ap (λ (cs : List Change). count_of r (all_puts cs)) (changes-append xs ys) ∙ puts-append r (changes_of xs) (changes_of ys)

takes_parts : (r : Row) (xs ys : List Message) → count_of r (all_takes (changes_of (xs ++ ys))) ≡ count_of r (all_takes (changes_of xs)) + count_of r (all_takes (changes_of ys))
takes_parts r xs ys = ap (λ (cs : List Change). count_of r (all_takes cs)) (changes-append xs ys) ∙ takes-append r (changes_of xs) (changes_of ys)

sums_at : (ms : List Message) (rows : List Row) → IsTableOf ms rows → (r : Row) → count_of r rows + count_of r (all_takes (changes_of ms)) ≡ count_of r (all_puts (changes_of ms))
sums_at ms rows table r = omega (arith, table.sums.each r, count_of-append r rows (all_takes (changes_of ms)))

-- from lines of the same state and history, the same lines lead to the same history
pub same_history : (xs ys : List EventLine) → AreAccepted xs → AreAccepted ys → SameState xs ys → history_of xs ≡ history_of ys → (lines : List EventLine) → AreAcceptedBehind xs lines → history_of (xs ++ lines) ≡ history_of (ys ++ lines)
same_history xs ys accepted accepted' same history lines more =
    let g = same_goes_on xs ys same lines more in
    let mine = table_after xs lines accepted more in
    let theirs : IsTableOf (messages_behind [] ys ++ messages_behind xs lines) (history_of (ys ++ lines)) = subst (λ (ms : List Message). IsTableOf (messages_behind [] ys ++ ms) (history_of (ys ++ lines))) (sym g.1) (table_after ys lines accepted' g.0) in
    let first = table_is_history xs (messages_behind [] xs) (accepted_messages xs accepted).all in
    let other : IsTableOf (messages_behind [] ys) (history_of xs) = subst (IsTableOf (messages_behind [] ys)) (sym history) (table_is_history ys (messages_behind [] ys) (accepted_messages ys accepted').all) in
    same_in_order (filter row_lives (rows_among (xs ++ lines))) (filter row_lives (rows_among (ys ++ lines))) (record {
      each = λ r. omega (
        arith,
        sums_at (messages_behind [] xs ++ messages_behind xs lines) (history_of (xs ++ lines)) mine r,
        sums_at (messages_behind [] ys ++ messages_behind xs lines) (history_of (ys ++ lines)) theirs r,
        sums_at (messages_behind [] xs) (history_of xs) first r,
        sums_at (messages_behind [] ys) (history_of xs) other r,
        puts_parts r (messages_behind [] xs) (messages_behind xs lines),
        takes_parts r (messages_behind [] xs) (messages_behind xs lines),
        puts_parts r (messages_behind [] ys) (messages_behind xs lines),
        takes_parts r (messages_behind [] ys) (messages_behind xs lines),
        in_order_count r (filter row_lives (rows_among (xs ++ lines))),
        in_order_count r (filter row_lives (rows_among (ys ++ lines))),
      );
    })
