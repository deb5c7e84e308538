-- What is remembered of lines, and the messages that go on from all that were given.
use Rattle.std.proofs.Common.{◌≡◌, ℕ, ◌+◌, ◌≤◌, ◌<◌, List, [], ◌∷◌, ◌++◌, Bool, true, false, cond, not, refl, ap, sym, ◌∙◌, subst, arith, append-nil}
use Rattle.std.specs.Prelude.{All, filter, map, nat_lt, sum_by}
use Rattle.std.proofs.lemmas.List.Elements.{All-nil, All-cons, All-filter}
use Rattle.std.proofs.lemmas.List.Kept.{AllPairs-filter}
use Rattle.std.proofs.lemmas.List.Sums.{sum_by-cons}
use Rattle.std.proofs.lemmas.Bool.{ltb-true, ltb-false}
use Rattle.cedr_base.specs.declared.row.Row.{Row}
use Rattle.cedr_base.specs.declared.change.Message.{Message}
use Rattle.cedr_base.specs.Changes.{all_puts, all_takes}
use Rattle.cedr_base.specs.Messages.{changes_of, mark_of, IsLegal, IsLegalBehind, IsTableOf}
use Rattle.cedr_base.specs.Rows.{count_of, one_if_same, in_order}
use Rattle.cedr_base.proofs.Bags.{count_of-append}
use Rattle.cedr_base.proofs.Sorting.{in_order_counts}
use Rattle.change_laws.proofs.Legal.{legal-append, legal_rest}
use Rattle.cedr_text.specs.declared.event_line.EventLine.{EventLine}
use Rattle.cedr_text.specs.declared.event_line.EventLine.TheVariants.{Insert, Retract, Revise, Promise}
use Rattle.cedr_guard.specs.declared.state.EventState.{EventState}
use Rattle.cedr_guard.specs.History.{history_of}
use Rattle.cedr_guard.specs.Judging.{guarantee_of, row_lives, AreAccepted, IsAccepted}
use Rattle.cedr_guard.specs.Messages.{line_messages, messages_behind}
use Rattle.cedr_guard.specs.Spelt.{State, state_row, events_among, by_id, state_of, IsState, IsFit, IsBareEvent, HasBare}
use Rattle.cedr_guard.proofs.MessageLemmas.{accepted_messages, table_is_history, messages-more}
use Rattle.cedr_guard.proofs.SpeltLemmas.{fit_state, accepted-append}
use Rattle.cedr_guard.proofs.StateHistories.{rows_spelt, spelt_history, fit_accepted, fit_itself}
use Rattle.source_memory.specs.Remembered.{event_is_over, left_events, without_over, remembered_lines, kept_with, RemembersLines, Continues, EndBelow}
use Rattle.source_memory.proofs.BesideLemmas.{GoesBeside, legal_beside, beside_more, line_open}

-- ---- a state without events stays fit

pub fit_left : (state : State) → IsFit state → IsFit (without_over state)
fit_left state fit = record {
  ascend = AllPairs-filter (λ (e : EventState) (later : EventState). e.id < later.id) (λ (e : EventState). not (event_is_over state.mark e)) state.events fit.ascend;
  sound = All-filter (λ (e : EventState). not (event_is_over state.mark e)) IsState state.events fit.sound;
  time = fit.time;
}

bare_left : (state : State) → HasBare state → HasBare (without_over state)
bare_left state bare = All-filter (λ (e : EventState). not (event_is_over state.mark e)) IsBareEvent state.events bare

-- so its lines are what is remembered
pub remembers_left : (lines : List EventLine) → AreAccepted lines → RemembersLines lines (remembered_lines lines)
remembers_left lines accepted =
    let f = fit_state lines accepted in
    record {
      accepted = fit_accepted (without_over (state_of lines)) (fit_left (state_of lines) f.0);
      state = fit_itself (without_over (state_of lines)) (fit_left (state_of lines) f.0) (bare_left (state_of lines) f.1);
    }

-- ---- the messages go on

sums_at : (ms : List Message) (rows : List Row) → IsTableOf ms rows → (r : Row) → count_of r rows + count_of r (all_takes (changes_of ms)) ≡ count_of r (all_puts (changes_of ms))
sums_at ms rows table r = omega (arith, table.sums.each r, count_of-append r rows (all_takes (changes_of ms)))

table_of : (lines : List EventLine) → AreAccepted lines → IsTableOf (messages_behind [] lines) (history_of lines)
table_of lines accepted = table_is_history lines (messages_behind [] lines) (accepted_messages lines accepted).all

pub continues_first : (lines : List EventLine) → AreAccepted lines → Continues (messages_behind [] lines) lines []
continues_first lines accepted =
    let are = accepted_messages lines accepted in
    record {
      legal = are.legal;
      goes_on = are.all.goes_on;
      mark = are.all.mark;
      table = subst (IsTableOf (messages_behind [] lines)) (sym (append-nil (history_of lines))) (table_of lines accepted);
    }

beside_of : (given : List Message) (kept : List EventLine) (gone : List Row) → AreAccepted kept → Continues given kept gone → GoesBeside (messages_behind [] kept) given gone
beside_of given kept gone accepted c =
    let are = accepted_messages kept accepted in
    record {
      goes_on = c.goes_on;
      mark = c.mark ∙ sym are.all.mark;
      table = λ r. omega (arith, sums_at (messages_behind [] kept) (history_of kept) (table_of kept accepted) r, sums_at given (history_of kept ++ gone) c.table r, count_of-append r (history_of kept) gone);
    }

pub continues_on : (given : List Message) (kept : List EventLine) (gone : List Row) (line : EventLine) → AreAccepted kept → Continues given kept gone → IsAccepted kept line → Continues (given ++ line_messages kept line) (kept ++ line ∷ []) gone
continues_on given kept gone line accepted c more =
    let ms = line_messages kept line in
    let short = messages_behind [] kept in
    let now = kept ++ line ∷ [] in
    let all = accepted-append [] kept (line ∷ []) accepted (more, tt) in
    let are = accepted_messages now all in
    let behind : IsLegalBehind short ms = legal_rest [] short ms (subst IsLegal (messages-more kept line) are.legal) in
    let b = beside_of given kept gone accepted c in
    let opened = line_open kept line in
    let next = beside_more short given gone ms opened b in
    let table = subst (λ (xs : List Message). IsTableOf xs (history_of now)) (messages-more kept line) (table_of now all) in
    record {
      legal = legal-append [] given ms c.legal (legal_beside short given gone ms opened b behind);
      goes_on = next.goes_on;
      mark = next.mark ∙ (sym (ap mark_of (messages-more kept line)) ∙ are.all.mark);
      table = record { sums = record { each = λ r. omega (arith, next.table r, sums_at (short ++ ms) (history_of now) table r, count_of-append r (history_of now ++ gone) (all_takes (changes_of (given ++ ms))), count_of-append r (history_of now) gone) } };
    }

-- ---- events are forgotten

abbrev row_over : ℕ → Row → Bool
row_over mark row = nat_lt row.end mark

left_at : (e : EventState) (es : List EventState) (b : Bool) → map state_row (cond b (e ∷ es) es) ≡ cond b (state_row e ∷ map state_row es) (map state_row es)
left_at e es true = refl
left_at e es false = refl

rows_left : (mark : ℕ) (events : List EventState) → map state_row (left_events mark events) ≡ filter (λ (row : Row). not (row_over mark row)) (map state_row events)
rows_left mark [] = refl
rows_left mark (e ∷ es) =
    left_at e (left_events mark es) (not (event_is_over mark e))
    ∙ ap (λ (rows : List Row). cond (not (event_is_over mark e)) (state_row e ∷ rows) rows) (rows_left mark es)

-- ---- how often a row stands in what is left, and in what isn't

filter_weight_at : (w : Row → ℕ) (x : Row) (xs : List Row) (b : Bool) → sum_by w (cond b (x ∷ xs) xs) ≡ cond b (w x) 0 + sum_by w xs
filter_weight_at w x xs true = sum_by-cons w x xs
filter_weight_at w x xs false = omega arith

filter_weight : (p : Row → Bool) (w : Row → ℕ) (xs : List Row) → sum_by w (filter p xs) ≡ sum_by (λ (x : Row). cond (p x) (w x) 0) xs
filter_weight p w [] = refl
filter_weight p w (x ∷ xs) = filter_weight_at w x (filter p xs) (p x) ∙ omega (arith, filter_weight p w xs, sum_by-cons (λ (y : Row). cond (p y) (w y) 0) x xs)

both_weights : (f g h : Row → ℕ) → ((x : Row) → f x + g x ≡ h x) → (xs : List Row) → sum_by f xs + sum_by g xs ≡ sum_by h xs
both_weights f g h same [] = refl
both_weights f g h same (x ∷ xs) = omega (arith, both_weights f g h same xs, same x, sum_by-cons f x xs, sum_by-cons g x xs, sum_by-cons h x xs)

weights_at : (lives over : Bool) (n : ℕ) → cond (not over) (cond lives n 0) 0 + cond lives (cond over n 0) 0 ≡ cond lives n 0
weights_at true true n = omega arith
weights_at true false n = omega arith
weights_at false true n = omega arith
weights_at false false n = omega arith

-- the rows that live of those that are left, and the others that live
split_rows : (r : Row) (mark : ℕ) (rows : List Row) → count_of r (filter row_lives (filter (λ (row : Row). not (row_over mark row)) rows)) + count_of r (filter (row_over mark) (filter row_lives rows)) ≡ count_of r (filter row_lives rows)
split_rows r mark rows =
    let w = one_if_same r in
    let keep = λ (row : Row). not (row_over mark row) in
    let living = λ (x : Row). cond (row_lives x) (w x) 0 in
    let over = λ (x : Row). cond (row_over mark x) (w x) 0 in
    omega (
      arith,
      filter_weight row_lives w (filter keep rows),
      filter_weight keep living rows,
      filter_weight (row_over mark) w (filter row_lives rows),
      filter_weight row_lives over rows,
      filter_weight row_lives w rows,
      both_weights (λ (x : Row). cond (keep x) (living x) 0) (λ (x : Row). cond (row_lives x) (over x) 0) living (λ x. weights_at (row_lives x) (row_over mark x) (w x)) rows,
    )

-- the history of lines is that of the events of their state
state_history : (r : Row) (lines : List EventLine) → AreAccepted lines → count_of r (history_of lines) ≡ count_of r (filter row_lives (map state_row (state_of lines).events))
state_history r lines accepted =
    let fit = (fit_state lines accepted).0 in
    ap (count_of r) (sym (spelt_history lines accepted) ∙ ap (λ (rows : List Row). in_order (filter row_lives rows)) (rows_spelt (by_id (events_among lines)) (guarantee_of lines) fit))
    ∙ sym ((in_order_counts (filter row_lives (map state_row (by_id (events_among lines))))).each r)

-- the rows that live of the events that are over
abbrev over_rows : List EventLine → List Row
over_rows lines = filter (row_over (guarantee_of lines)) (filter row_lives (map state_row (state_of lines).events))

all_below_at : (mark : ℕ) (row : Row) (rows : List Row) (b : Bool) → row_over mark row ≡ b → EndBelow mark rows → EndBelow mark (cond b (row ∷ rows) rows)
all_below_at mark row rows true is all = All-cons (λ (r : Row). r.end < mark) row rows (ltb-true row.end mark is) all
all_below_at mark row rows false is all = all

all_below : (mark : ℕ) (rows : List Row) → EndBelow mark (filter (row_over mark) rows)
all_below mark [] = All-nil (λ (r : Row). r.end < mark)
all_below mark (row ∷ rows) = all_below_at mark row (filter (row_over mark) rows) (row_over mark row) refl (all_below mark rows)

pub continues_left : (given : List Message) (lines kept : List EventLine) (gone : List Row) → AreAccepted lines → Continues given lines gone → RemembersLines lines kept → (over : List Row) × EndBelow (guarantee_of lines) over × Continues given kept (over ++ gone)
continues_left given lines kept gone accepted c remembers =
    let mark = guarantee_of lines in
    let events = (state_of lines).events in
    let over = over_rows lines in
    let state = remembers.state in
    let left : (r : Row) → count_of r (history_of kept) ≡ count_of r (filter row_lives (filter (λ (row : Row). not (row_over mark row)) (map state_row events))) =
    λ r. state_history r kept remembers.accepted ∙ ap (λ (rows : List Row). count_of r (filter row_lives rows)) (ap (λ (s : State). map state_row s.events) state ∙ rows_left mark events) in (
      over,
      all_below mark (filter row_lives (map state_row events)),
      record {
        legal = c.legal;
        goes_on = c.goes_on;
        mark = c.mark ∙ sym (ap (λ (s : State). s.mark) state);
        table = record {
          sums = record {
            each = λ r. omega (
              arith,
              sums_at given (history_of lines ++ gone) c.table r,
              count_of-append r (history_of lines) gone,
              state_history r lines accepted,
              left r,
              split_rows r mark (map state_row events),
              count_of-append r (history_of kept ++ (over ++ gone)) (all_takes (changes_of given)),
              count_of-append r (history_of kept) (over ++ gone),
              count_of-append r over gone,
            );
          };
        };
      },
    )

-- ---- no event is over

not_over_at : (mark : ℕ) (e : EventState) (es : List EventState) (b : Bool) → event_is_over mark e ≡ b → All (λ (x : EventState). mark ≤ x.end) es → All (λ (x : EventState). mark ≤ x.end) (cond (not b) (e ∷ es) es)
not_over_at mark e es true is all = all
not_over_at mark e es false is all = All-cons (λ (x : EventState). mark ≤ x.end) e es (ltb-false e.end mark is) all

not_over : (mark : ℕ) (events : List EventState) → All (λ (x : EventState). mark ≤ x.end) (left_events mark events)
not_over mark [] = All-nil (λ (x : EventState). mark ≤ x.end)
not_over mark (e ∷ es) = not_over_at mark e (left_events mark es) (event_is_over mark e) refl (not_over mark es)

-- none of them is over
pub remembered_not_over : (lines kept : List EventLine) → RemembersLines lines kept → All (λ (e : EventState). guarantee_of kept ≤ e.end) (state_of kept).events
remembered_not_over lines kept remembers = subst (λ (s : State). All (λ (e : EventState). s.mark ≤ e.end) s.events) (sym remembers.state) (not_over (guarantee_of lines) (state_of lines).events)

-- ---- one more line

-- lines are accepted, and messages continue behind them beside rows of events that were forgotten, of which some are new
abbrev pub StillContinues : List Message → List EventLine → List Row → Type 0
StillContinues given lines gone = AreAccepted lines × ((over : List Row) × EndBelow (guarantee_of lines) over × Continues given lines (over ++ gone))

none_gone : (given : List Message) (lines : List EventLine) (gone : List Row) → AreAccepted lines → Continues given lines gone → StillContinues given lines gone
none_gone given lines gone accepted c = (accepted, ([], All-nil (λ (r : Row). r.end < guarantee_of lines), c))

some_gone : (given : List Message) (lines : List EventLine) (gone : List Row) → AreAccepted lines → Continues given lines gone → StillContinues given (remembered_lines lines) gone
some_gone given lines gone accepted c =
    let r = remembers_left lines accepted in
    let left = continues_left given lines (remembered_lines lines) gone accepted c r in
    let same : guarantee_of (remembered_lines lines) ≡ guarantee_of lines = ap (λ (s : State). s.mark) r.state in
    (r.accepted, (left.0, subst (λ (n : ℕ). EndBelow n left.0) (sym same) left.1, left.2))

risen_at : (given : List Message) (lines : List EventLine) (gone : List Row) (b : Bool) → AreAccepted lines → Continues given lines gone → StillContinues given (cond b (remembered_lines lines) lines) gone
risen_at given lines gone true accepted c = some_gone given lines gone accepted c
risen_at given lines gone false accepted c = none_gone given lines gone accepted c

kept_at : (given : List Message) (kept : List EventLine) (gone : List Row) (line : EventLine) → AreAccepted (kept ++ line ∷ []) → Continues given (kept ++ line ∷ []) gone → StillContinues given (kept_with kept line) gone
kept_at given kept gone (Insert id row) accepted c = none_gone given (kept ++ Insert id row ∷ []) gone accepted c
kept_at given kept gone (Retract id end) accepted c = none_gone given (kept ++ Retract id end ∷ []) gone accepted c
kept_at given kept gone (Revise id row) accepted c = none_gone given (kept ++ Revise id row ∷ []) gone accepted c
kept_at given kept gone (Promise time) accepted c = risen_at given (kept ++ Promise time ∷ []) gone (nat_lt (guarantee_of kept) time) accepted c

-- the messages of a line go on from all that were given, where the events that are over behind it are forgotten
pub continues_behind : (given : List Message) (kept : List EventLine) (gone : List Row) (line : EventLine) → AreAccepted kept → Continues given kept gone → IsAccepted kept line → StillContinues (given ++ line_messages kept line) (kept_with kept line) gone
continues_behind given kept gone line accepted c more =
    kept_at (given ++ line_messages kept line) kept gone line (accepted-append [] kept (line ∷ []) accepted (more, tt)) (continues_on given kept gone line accepted c more)
