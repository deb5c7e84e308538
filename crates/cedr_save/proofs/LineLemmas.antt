-- The lines of a checkpoint: which bytes they have, and how they differ.
use Rattle.std.proofs.Common.{◌≡◌, ℕ, suc, ◌≤◌, List, [], ◌∷◌, ◌++◌, map, Bool, true, false, cond, eqb, refl, ap, sym, ◌∙◌, arith}
use Rattle.std.specs.Prelude.{All, codes, decimal}
use Rattle.std.specs.Char.{is_ascii_digit}
use Rattle.std.specs.List.{list_all}
use Rattle.std.proofs.lemmas.Bool.{and_parts}
use Rattle.std.proofs.lemmas.Fmt.{decimal_injective}
use Rattle.cedr_base.specs.declared.time.TheConstants.{FOREVER}
use Rattle.cedr_base.specs.declared.field.FieldType.{FieldType}
use Rattle.cedr_base.specs.Bytes.{comma, line_feed}
use Rattle.cedr_text.specs.Lines.{has_line_feed}
use Rattle.cedr_text.specs.Numbers.{is_numeral}
use Rattle.cedr_text.specs.Parts.{parts_of}
use Rattle.cedr_text.specs.Texts.{time_text, payload_text}
use Rattle.cedr_guard.specs.declared.state.EventState.{EventState}
use Rattle.cedr_guard.specs.Judging.{row_lives}
use Rattle.cedr_guard.specs.States.{as_it_is}
use Rattle.cedr_guard.specs.Spelt.{State, state_row}
use Rattle.cedr_save.specs.Checkpoints.{Source, ends_line, HasId, IsSaved, AreSaved, row_line, event_line, source_line, states_lines, end_line, checkpoint_lines}
use Rattle.cedr_save.specs.Lines.{IsSavedEvent}
use Rattle.cedr_save.specs.Reading.{AreNamed}
use Rattle.cedr_save.proofs.ListLemmas.{AreWhole, whole-append, part_before, first_same}
use Rattle.cedr_save.proofs.TextLemmas.{HasNone, none-append, none-cons, digits_none, time_none, time_same, ends_no_digit, ends_no_time, comma_no_time, payload_none, no_ends, decimal_spells}

-- ---- the events of a saved state

-- each of them is one that its source may have
pub saved_event : (source : Source) (state : State) → IsSaved source state → All (IsSavedEvent source.types) state.events
saved_event source state saved k d within = record { state = saved.fit.sound k d within; id = saved.ids k d within; fields = saved.fields k d within }

-- ---- an event's line

row_none : (types : List FieldType) (e : EventState) (b : Bool) → row_lives (state_row e) ≡ b → IsSavedEvent types e → HasNone ends_line (row_line (cond b (state_row e) (record (state_row e) { payload = [] })))
row_none types e true living saved =
    let low = saved.state.begins in
    none-append ends_line (time_text e.begin) (comma ∷ (time_text e.end ++ payload_text e.payload)) (time_none ends_line e.begin ends_no_time (omega arith))
    (none-cons ends_line comma (time_text e.end ++ payload_text e.payload) refl
    (none-append ends_line (time_text e.end) (payload_text e.payload) (time_none ends_line e.end ends_no_time saved.state.ends) (payload_none types e.payload (saved.fields living))))
row_none types e false gone saved =
    let low = saved.state.begins in
    none-append ends_line (time_text e.begin) (comma ∷ (time_text e.end ++ [])) (time_none ends_line e.begin ends_no_time (omega arith))
    (none-cons ends_line comma (time_text e.end ++ []) refl (none-append ends_line (time_text e.end) [] (time_none ends_line e.end ends_no_time saved.state.ends) refl))

-- it has no carriage return and no line feed
pub event_none : (types : List FieldType) (e : EventState) → IsSavedEvent types e → HasNone ends_line (event_line e)
event_none types e saved =
    none-append ends_line (decimal e.id) (comma ∷ row_line (as_it_is (state_row e))) (digits_none ends_line ends_no_digit e.id saved.id)
    (none-cons ends_line comma (row_line (as_it_is (state_row e))) refl (row_none types e (row_lives (state_row e)) refl saved))

pub event_whole : (types : List FieldType) (e : EventState) → IsSavedEvent types e → has_line_feed (event_line e) ≡ false
event_whole types e saved = (no_ends (event_line e) (event_none types e saved)).1

-- it begins with a digit
abbrev pub starts_digit : List ℕ → Bool
starts_digit [] = false
starts_digit (b ∷ bytes) = is_ascii_digit b

numeral_starts : (ds rest : List ℕ) → is_numeral ds ≡ true → starts_digit (ds ++ rest) ≡ true
numeral_starts [] rest numeral = absurd (let e = numeral in cc)
numeral_starts (c ∷ cs) rest numeral = (and_parts (is_ascii_digit c) (list_all is_ascii_digit cs) numeral).0

pub event_starts : (e : EventState) → HasId e → starts_digit (event_line e) ≡ true
event_starts e fits = numeral_starts (decimal e.id) (comma ∷ row_line (as_it_is (state_row e))) (decimal_spells e.id fits).numeral

-- its first field is the id
pub event_parts : (e : EventState) → HasId e → parts_of comma (event_line e) ≡ decimal e.id ∷ parts_of comma (row_line (as_it_is (state_row e)))
event_parts e fits = part_before comma (decimal e.id) (row_line (as_it_is (state_row e))) (digits_none (λ b. eqb b comma) comma_no_time.digits e.id fits)

pub id_same : (e f : EventState) → HasId e → HasId f → event_line e ≡ event_line f → e.id ≡ f.id
id_same e f one other same =
    decimal_injective e.id f.id one other
    (first_same (decimal e.id) (decimal f.id) (parts_of comma (row_line (as_it_is (state_row e)))) (parts_of comma (row_line (as_it_is (state_row f)))) (sym (event_parts e one) ∙ (ap (parts_of comma) same ∙ event_parts f other)))

-- ---- a source's line

pub source_whole : (name : List ℕ) (mark : ℕ) → has_line_feed name ≡ false → mark ≤ FOREVER → has_line_feed (source_line name mark) ≡ false
source_whole name mark named time =
    none-append (λ b. eqb b line_feed) (codes "source,") (name ++ comma ∷ time_text mark) refl
    (none-append (λ b. eqb b line_feed) name (comma ∷ time_text mark) named
    (none-cons (λ b. eqb b line_feed) comma (time_text mark) refl (no_ends (time_text mark) (time_none ends_line mark ends_no_time time)).1))

tail_at : (x : ℕ) (ys zs : List ℕ) → ◌≡◌ {A = List ℕ} (x ∷ ys) (x ∷ zs) → ys ≡ zs
tail_at x ys zs e = cc

same_behind : (xs ys zs : List ℕ) → xs ++ ys ≡ xs ++ zs → ys ≡ zs
same_behind [] ys zs h = h
same_behind (x ∷ xs) ys zs h = same_behind xs ys zs (tail_at x (xs ++ ys) (xs ++ zs) h)

-- it spells one guarantee
pub mark_same : (name : List ℕ) (one other : ℕ) → one ≤ FOREVER → other ≤ FOREVER → source_line name one ≡ source_line name other → one ≡ other
mark_same name one other low high same =
    time_same one other low high
    (tail_at comma (time_text one) (time_text other) (same_behind name (comma ∷ time_text one) (comma ∷ time_text other) (same_behind (codes "source,") (name ++ comma ∷ time_text one) (name ++ comma ∷ time_text other) same)))

-- ---- the lines of a checkpoint have no line feed

events_whole : (types : List FieldType) (events : List EventState) → All (IsSavedEvent types) events → AreWhole (map event_line events)
events_whole types [] saved = tt
events_whole types (e ∷ events) saved = (event_whole types e (saved 0 e (omega arith)), events_whole types events (λ k d within. saved (suc k) d (omega arith)))

states_whole : (sources : List Source) (states : List State) → AreNamed sources → AreSaved sources states → AreWhole (states_lines sources states)
states_whole [] states named saved = tt
states_whole (source ∷ sources) [] named saved = tt
states_whole (source ∷ sources) (state ∷ states) named saved = (
  source_whole source.name state.mark named.0 saved.0.fit.time,
  whole-append (map event_line state.events) (states_lines sources states) (events_whole source.types state.events (saved_event source state saved.0)) (states_whole sources states named.1 saved.1),
)

pub checkpoint_whole : (sources : List Source) (states : List State) → AreNamed sources → AreSaved sources states → AreWhole (checkpoint_lines sources states)
checkpoint_whole sources states named saved = (refl, whole-append (states_lines sources states) (end_line ∷ []) (states_whole sources states named saved) (refl, tt))
