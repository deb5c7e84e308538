-- Parts of an event's line that go on from some bytes.
use Rattle.std.proofs.Common.{◌≡◌, ◌≢◌, ℕ, ◌<◌, ◌≤◌, ◌^◌, ◌-◌, ◌⊎◌, inl, inr, List, [], ◌∷◌, ◌++◌, Bool, true, false, cond, eqb, Some, refl, ap, sym, ◌∙◌, arith, append_assoc, append-nil}
use Rattle.std.specs.Prelude.{codes, decimal, nat_eq, nat_lt}
use Rattle.std.specs.List.{starts_with}
use Rattle.std.proofs.lemmas.Bool.{cases_lt, lt-ltb, ltb-true}
use Rattle.cedr_base.specs.declared.time.TheConstants.{FOREVER}
use Rattle.cedr_base.specs.declared.field.Field.{Field}
use Rattle.cedr_base.specs.declared.field.FieldType.{FieldType}
use Rattle.cedr_base.specs.Bytes.{comma}
use Rattle.cedr_text.specs.Texts.{quote, time_text, field_text, payload_text}
use Rattle.cedr_guard.specs.declared.state.EventState.{EventState}
use Rattle.cedr_guard.specs.Judging.{row_lives}
use Rattle.cedr_guard.specs.States.{as_it_is}
use Rattle.cedr_guard.specs.Spelt.{state_row}
use Rattle.cedr_save.specs.Checkpoints.{AreTyped, row_line}
use Rattle.cedr_save.specs.Lines.{IsSavedEvent}
use Rattle.cedr_save.specs.Fronts.{default_fields, FindsHighest, CompletesEvent, IsOneField, CutsText, is_uncut, GoesOnAs, Completes, IsRowText, IsEndText, IsFieldsText, end_text, CompletesId, CompletesBegin, CompletesEnd, EndsWell}
use Rattle.cedr_save.proofs.ListLemmas.{rest_same}
use Rattle.cedr_save.proofs.TextLemmas.{digits_none, time_none, comma_no_time, quote_no_time, finite_text}
use Rattle.cedr_save.proofs.ReadLemmas.{is_field, value_of}
use Rattle.cedr_save.proofs.SourceFronts.{starts_is, is_starts}
use Rattle.cedr_save.proofs.LeastEvents.{least_fields, least_typed, least_text, least_event, least_saved, id_goes_on}
use Rattle.cedr_save.proofs.FieldFronts.{payload_behind, field_same, field_front, plain_one, field_one}

-- ---- texts that are one field

id_one : (n : ℕ) → n < 2 ^ 64 → IsOneField (decimal n)
id_one n fits = plain_one (decimal n) (digits_none (λ b. eqb b quote) quote_no_time.digits n fits) (digits_none (λ b. eqb b comma) comma_no_time.digits n fits)

time_one : (t : ℕ) → t ≤ FOREVER → IsOneField (time_text t)
time_one t low = plain_one (time_text t) (time_none (λ b. eqb b quote) t quote_no_time low) (time_none (λ b. eqb b comma) t comma_no_time low)

-- ---- fields

-- a field that isn't whole goes on, and the least ones of the other types stand behind it
pub last_field : (type : FieldType) (others : List FieldType) (text added before behind : List ℕ) → is_uncut false text ≡ true → EndsWell type text added → behind ≡ ((before ++ comma ∷ []) ++ (text ++ added)) ++ default_fields others
    → Completes (IsFieldsText (type ∷ others)) (comma ∷ text) before behind
last_field type others text added before behind uncut ends is = λ part rest kind h. at rest kind.payload kind.typed (h ∙ kind.is) where
  at : (rest : List ℕ) (payload : List Field) → AreTyped (type ∷ others) payload → (comma ∷ text) ++ rest ≡ payload_text payload → GoesOnAs (IsFieldsText (type ∷ others)) (comma ∷ text) before behind
  at rest [] typed h = absurd typed
  at rest (field ∷ fields) typed h =
      let front = field_front text rest (field_text field) (payload_text fields) uncut (field_one (field_text field) (value_of field) (is_field type field typed.0)) (payload_behind fields) (rest_same comma comma (text ++ rest) (field_text field ++ payload_text fields) h) in
      let other = ends field front.0 typed.0 (sym front.1) in
      let written : payload_text (other.0 ∷ least_fields others) ≡ comma ∷ ((text ++ added) ++ default_fields others) = ap (λ (bs : List ℕ). comma ∷ (bs ++ payload_text (least_fields others))) other.2 ∙ ap (λ (bs : List ℕ). comma ∷ ((text ++ added) ++ bs)) (least_text others) in
      record {
        part = payload_text (other.0 ∷ least_fields others);
        kind = record { payload = other.0 ∷ least_fields others; typed = (other.1, least_typed others); is = refl };
        more = added ++ default_fields others;
        begins = written ∙ ap (λ (bs : List ℕ). comma ∷ bs) (append_assoc text added (default_fields others));
        is = is ∙ (append_assoc (before ++ comma ∷ []) (text ++ added) (default_fields others) ∙ (append_assoc before (comma ∷ []) ((text ++ added) ++ default_fields others) ∙ ap (λ (bs : List ℕ). before ++ bs) (sym written)));
      }

-- behind a whole field the others go on
pub next_field : (type : FieldType) (others : List FieldType) (text field rest before behind : List ℕ) → CutsText text field rest → Completes (IsFieldsText others) (comma ∷ rest) ((before ++ comma ∷ []) ++ field) behind
    → Completes (IsFieldsText (type ∷ others)) (comma ∷ text) before behind
next_field type others text field rest before behind cut completes = λ part more kind h. at more kind.payload kind.typed (h ∙ kind.is) where
  at : (more : List ℕ) (payload : List Field) → AreTyped (type ∷ others) payload → (comma ∷ text) ++ more ≡ payload_text payload → GoesOnAs (IsFieldsText (type ∷ others)) (comma ∷ text) before behind
  at more [] typed h = absurd typed
  at more (first ∷ fields) typed h =
      let same = field_same text field rest more (field_text first) (payload_text fields) cut (field_one (field_text first) (value_of first) (is_field type first typed.0)) (payload_behind fields) (rest_same comma comma (text ++ more) (field_text first ++ payload_text fields) h) in
      let g = completes (payload_text fields) more (record { payload = fields; typed = typed.1; is = refl }) same.1 in
      let written : payload_text (first ∷ g.kind.payload) ≡ comma ∷ (field ++ g.part) = ap (λ (bs : List ℕ). comma ∷ (bs ++ payload_text g.kind.payload)) (sym same.0) ∙ ap (λ (bs : List ℕ). comma ∷ (field ++ bs)) (sym g.kind.is) in
      record {
        part = payload_text (first ∷ g.kind.payload);
        kind = record { payload = first ∷ g.kind.payload; typed = (typed.0, g.kind.typed); is = refl };
        more = g.more;
        begins = written ∙ (ap (λ (bs : List ℕ). comma ∷ (field ++ bs)) g.begins ∙ (ap (λ (bs : List ℕ). comma ∷ bs) (sym (append_assoc field (comma ∷ rest) g.more)) ∙ ap (λ (bs : List ℕ). comma ∷ (bs ++ g.more)) (sym cut.is)));
        is = g.is ∙ (append_assoc (before ++ comma ∷ []) field g.part ∙ (append_assoc before (comma ∷ []) (field ++ g.part) ∙ ap (λ (bs : List ℕ). before ++ bs) (sym written)));
      }

-- ---- ends

-- an event with other fields
abbrev with_fields : EventState → List Field → EventState
with_fields e fields = record { end = e.end; begin = e.begin; id = e.id; payload = fields }

-- the fields of an event as it is
living_end : (e : EventState) → row_lives (state_row e) ≡ true → end_text e ≡ time_text e.end ++ payload_text e.payload
living_end e lives = ap (λ (b : Bool). time_text e.end ++ payload_text (cond b (state_row e) (record (state_row e) { payload = [] })).payload) lives

gone_end : (e : EventState) → row_lives (state_row e) ≡ false → end_text e ≡ time_text e.end ++ []
gone_end e gone = ap (λ (b : Bool). time_text e.end ++ payload_text (cond b (state_row e) (record (state_row e) { payload = [] })).payload) gone

-- behind an end that is whole the fields go on
pub cut_end : (types : List FieldType) (time : ℕ) (text end rest before behind : List ℕ) → CutsText text end rest → Completes (IsFieldsText types) (comma ∷ rest) (before ++ end) behind → Completes (IsEndText types time) text before behind
cut_end types time text end rest before behind cut completes = λ part more kind h.
    at kind.event kind.saved kind.begins more (row_lives (state_row kind.event)) refl (field_same text end rest more (time_text kind.event.end) (payload_text (as_it_is (state_row kind.event)).payload) cut (time_one kind.event.end kind.saved.state.ends) (payload_behind (as_it_is (state_row kind.event)).payload) (h ∙ kind.is)) where
      at : (e : EventState) → IsSavedEvent types e → e.begin ≡ time → (more : List ℕ) (b : Bool) → row_lives (state_row e) ≡ b → (end ≡ time_text e.end) × (comma ∷ (rest ++ more) ≡ payload_text (cond b (state_row e) (record (state_row e) { payload = [] })).payload) → GoesOnAs (IsEndText types time) text before behind
      at e saved begins more false gone same = absurd (let no = same.1 in cc)
      at e saved begins more true lives same =
          let g = completes (payload_text e.payload) more (record { payload = e.payload; typed = saved.fields lives; is = refl }) same.1 in
          let other = with_fields e g.kind.payload in
          let written : end_text other ≡ end ++ g.part = living_end other lives ∙ (ap (λ (bs : List ℕ). bs ++ payload_text g.kind.payload) (sym same.0) ∙ ap (λ (bs : List ℕ). end ++ bs) (sym g.kind.is)) in
          record {
            part = end_text other;
            kind = record { event = other; saved = record { state = record { begins = saved.state.begins; lasts = saved.state.lasts; ends = saved.state.ends }; id = saved.id; fields = λ living. g.kind.typed }; begins = begins; is = refl };
            more = g.more;
            begins = written ∙ (ap (λ (bs : List ℕ). end ++ bs) g.begins ∙ (sym (append_assoc end (comma ∷ rest) g.more) ∙ ap (λ (bs : List ℕ). bs ++ g.more) (sym cut.is)));
            is = g.is ∙ (append_assoc before end g.part ∙ ap (λ (bs : List ℕ). before ++ bs) (sym written));
          }

-- an end that isn't whole is completed alone
pub last_end : (types : List FieldType) (time : ℕ) (text before behind : List ℕ) → time < FOREVER → is_uncut false text ≡ true → CompletesEnd types time text before behind → Completes (IsEndText types time) text before behind
last_end types time text before behind low uncut completes = λ part more kind h.
    let e = kind.event in
    let front = field_front text more (time_text e.end) (payload_text (as_it_is (state_row e)).payload) uncut (time_one e.end kind.saved.state.ends) (payload_behind (as_it_is (state_row e)).payload) (h ∙ kind.is) in
    let lasts = kind.saved.state.lasts in
    let begins = kind.begins in
    completes e.end front.0 (omega arith) kind.saved.state.ends (sym front.1)

-- the event with this begin and end, and the least fields
ends_least : (types : List FieldType) (time end : ℕ) (text more before behind : List ℕ) → time < FOREVER → time < end → end ≤ FOREVER → time_text end ≡ text ++ more → behind ≡ (before ++ time_text end) ++ default_fields types → GoesOnAs (IsEndText types time) text before behind
ends_least types time end text more before behind low lives high begins is =
    let e = least_event types 0 time end in
    let written : end_text e ≡ time_text end ++ default_fields types = living_end e (lt-ltb time end lives) ∙ ap (λ (bs : List ℕ). time_text end ++ bs) (least_text types) in
    record {
      part = end_text e;
      kind = record { event = e; saved = least_saved types 0 time end (omega arith) low (omega arith) high; begins = refl; is = refl };
      more = more ++ default_fields types;
      begins = written ∙ (ap (λ (bs : List ℕ). bs ++ default_fields types) begins ∙ append_assoc text more (default_fields types));
      is = is ∙ (append_assoc before (time_text end) (default_fields types) ∙ ap (λ (bs : List ℕ). before ++ bs) (sym written));
    }

-- the end that is no time goes on from the text
pub ends_never : (types : List FieldType) (time : ℕ) (text before behind : List ℕ) → time < FOREVER → starts_with nat_eq (codes "inf") text ≡ true → behind ≡ (before ++ codes "inf") ++ default_fields types → CompletesEnd types time text before behind
ends_never types time text before behind low starts is = λ end rest lasts high h.
    let r = starts_is (codes "inf") text starts in ends_least types time FOREVER text r.0 before behind low low (omega arith) r.1 is

-- where it doesn't, an end is finite
finite_end : (text rest : List ℕ) (end : ℕ) → starts_with nat_eq (codes "inf") text ≡ false → end ≤ FOREVER → text ++ rest ≡ time_text end → end < FOREVER
finite_end text rest end starts high h = at (cases_lt end FOREVER) where
  at : (end < FOREVER) ⊎ (FOREVER ≤ end) → end < FOREVER
  at (inl low) = low
  at (inr past) =
      let never : end ≡ FOREVER = omega arith in
      absurd (let e = sym (ap (λ (bs : List ℕ). starts_with nat_eq bs text) (h ∙ ap time_text never)) ∙ is_starts text rest in let no = sym starts ∙ e in cc)

module _ (types : List FieldType) (time : ℕ) (text before behind : List ℕ) (low : time < FOREVER) (starts : starts_with nat_eq (codes "inf") text ≡ false) where
  -- the greatest end
  pub ends_highest : (last : ℕ) → last ≤ FOREVER - 1 → time ≢ last → FindsHighest (Some last) text (FOREVER - 1) → behind ≡ (before ++ decimal last) ++ default_fields types → CompletesEnd types time text before behind
  ends_highest last bound other finds is = λ end rest lasts high h.
      let finite = finite_end text rest end starts high h in
      let found = finds end rest (omega arith) (h ∙ finite_text end finite) in
      let above = found.0 in
      let same = finite_text last (omega arith) in
      ends_least types time last text found.1.0 before behind low (later time last (omega arith) other) (omega arith) (same ∙ found.1.1) (is ∙ ap (λ (bs : List ℕ). (before ++ bs) ++ default_fields types) (sym same)) where
        later : (a b : ℕ) → a ≤ b → a ≢ b → a < b
        later a b below apart = at (cases_lt a b) where
          at : (a < b) ⊎ (b ≤ a) → a < b
          at (inl less) = less
          at (inr past) = absurd (apart (omega arith))

  -- where that is the begin, the event is withdrawn
  pub ends_withdrawn : (last : ℕ) → last ≤ FOREVER - 1 → time ≡ last → FindsHighest (Some last) text (FOREVER - 1) → behind ≡ before ++ decimal last → CompletesEnd types time text before behind
  ends_withdrawn last bound same finds is = λ end rest lasts high h.
      let finite = finite_end text rest end starts high h in
      let found = finds end rest (omega arith) (h ∙ finite_text end finite) in
      let digits = finite_text last (omega arith) in
      let e = least_event types 0 last last in
      let written : end_text e ≡ decimal last = gone_end e (never last) ∙ (append-nil (time_text last) ∙ digits) in
      record {
        part = end_text e;
        kind = record { event = e; saved = least_saved types 0 last last (omega arith) (omega arith) (omega arith) (omega arith); begins = sym same; is = refl };
        more = found.1.0;
        begins = written ∙ found.1.1;
        is = is ∙ ap (λ (bs : List ℕ). before ++ bs) (sym written);
      } where
        never : (n : ℕ) → nat_lt n n ≡ false
        never n = at (nat_lt n n) refl where
          at : (b : Bool) → nat_lt n n ≡ b → b ≡ false
          at true is = absurd (let less = ltb-true n n is in omega arith)
          at false is = refl

-- ---- rows

row_is : (e : EventState) → row_line (as_it_is (state_row e)) ≡ time_text e.begin ++ comma ∷ end_text e
row_is e = at (row_lives (state_row e)) where
  at : (b : Bool) → row_line (cond b (state_row e) (record (state_row e) { payload = [] })) ≡ time_text e.begin ++ comma ∷ (time_text e.end ++ payload_text (cond b (state_row e) (record (state_row e) { payload = [] })).payload)
  at true = refl
  at false = refl

row_from : (e : EventState) (time : ℕ) (begin part : List ℕ) → e.begin ≡ time → begin ≡ time_text time → part ≡ end_text e → row_line (as_it_is (state_row e)) ≡ begin ++ comma ∷ part
row_from e time begin part starts spelled is =
    row_is e ∙ (ap (λ (t : ℕ). time_text t ++ comma ∷ end_text e) starts ∙ (ap (λ (bs : List ℕ). bs ++ comma ∷ end_text e) (sym spelled) ∙ ap (λ (bs : List ℕ). begin ++ comma ∷ bs) (sym is)))

-- behind a begin that is whole the end and the fields go on
pub cut_begin : (types : List FieldType) (text begin rest before behind : List ℕ) → CutsText text begin rest → ((time : ℕ) → time < FOREVER → begin ≡ decimal time → Completes (IsEndText types time) rest ((before ++ begin) ++ comma ∷ []) behind)
    → Completes (IsRowText types) text before behind
cut_begin types text begin rest before behind cut completes = λ part more kind h.
    let e = kind.event in
    let low = kind.saved.state.begins in
    let same = field_same text begin rest more (time_text e.begin) (comma ∷ end_text e) cut (time_one e.begin (omega arith)) refl (h ∙ (kind.is ∙ row_is e)) in
    let g = completes e.begin low (same.0 ∙ finite_text e.begin low) (end_text e) more (record { event = e; saved = kind.saved; begins = refl; is = refl }) (rest_same comma comma (rest ++ more) (end_text e) same.1) in
    let other = g.kind.event in
    let written = row_from other e.begin begin g.part g.kind.begins same.0 g.kind.is in
    record {
      part = row_line (as_it_is (state_row other));
      kind = record { event = other; saved = g.kind.saved; is = refl };
      more = g.more;
      begins = written ∙ (ap (λ (bs : List ℕ). begin ++ comma ∷ bs) g.begins ∙ (sym (append_assoc begin (comma ∷ rest) g.more) ∙ ap (λ (bs : List ℕ). bs ++ g.more) (sym cut.is)));
      is = g.is ∙ (append_assoc (before ++ begin) (comma ∷ []) g.part ∙ (append_assoc before begin (comma ∷ g.part) ∙ ap (λ (bs : List ℕ). before ++ bs) (sym written)));
    }

-- a begin that isn't whole is completed alone
pub last_begin : (types : List FieldType) (text before behind : List ℕ) → is_uncut false text ≡ true → CompletesBegin types text before behind → Completes (IsRowText types) text before behind
last_begin types text before behind uncut completes = λ part more kind h.
    let e = kind.event in
    let low = kind.saved.state.begins in
    let front = field_front text more (time_text e.begin) (comma ∷ end_text e) uncut (time_one e.begin (omega arith)) refl (h ∙ (kind.is ∙ row_is e)) in
    completes e.begin front.0 low (sym front.1 ∙ finite_text e.begin low)

pub begins_highest : (types : List FieldType) (last : ℕ) (text before behind : List ℕ) → last ≤ FOREVER - 1 → FindsHighest (Some last) text (FOREVER - 1) → behind ≡ ((before ++ decimal last) ++ codes ",inf") ++ default_fields types → CompletesBegin types text before behind
begins_highest types last text before behind bound finds is = λ time rest low h.
    let found = finds time rest (omega arith) h in
    let e = least_event types 0 last FOREVER in
    let tail = codes ",inf" ++ default_fields types in
    let written : row_line (as_it_is (state_row e)) ≡ decimal last ++ (codes ",inf" ++ default_fields types) =
    row_is e
    ∙ (ap (λ (bs : List ℕ). time_text last ++ comma ∷ bs) (living_end e (lt-ltb last FOREVER (omega arith)) ∙ ap (λ (bs : List ℕ). codes "inf" ++ bs) (least_text types))
    ∙ ap (λ (bs : List ℕ). bs ++ (codes ",inf" ++ default_fields types)) (finite_text last (omega arith))) in
    record {
      part = row_line (as_it_is (state_row e));
      kind = record { event = e; saved = least_saved types 0 last FOREVER (omega arith) (omega arith) (omega arith) (omega arith); is = refl };
      more = found.1.0 ++ (codes ",inf" ++ default_fields types);
      begins = written ∙ (ap (λ (bs : List ℕ). bs ++ (codes ",inf" ++ default_fields types)) found.1.1 ∙ append_assoc text found.1.0 (codes ",inf" ++ default_fields types));
      is = is ∙ (append_assoc (before ++ decimal last) (codes ",inf") (default_fields types) ∙ (append_assoc before (decimal last) (codes ",inf" ++ default_fields types) ∙ ap (λ (bs : List ℕ). before ++ bs) (sym written)));
    }

-- ---- lines

-- behind an id that is whole the row goes on
pub cut_id : (types : List FieldType) (text id rest line : List ℕ) → CutsText text id rest → Completes (IsRowText types) rest (id ++ comma ∷ []) line → CompletesEvent types text line
cut_id types text id rest line cut completes = λ e more saved h.
    let row = row_line (as_it_is (state_row e)) in
    let same = field_same text id rest more (decimal e.id) (comma ∷ row_line (as_it_is (state_row e))) cut (id_one e.id saved.id) refl h in
    let g = completes (row_line (as_it_is (state_row e))) more (record { event = e; saved = saved; is = refl }) (rest_same comma comma (rest ++ more) (row_line (as_it_is (state_row e))) same.1) in
    let other : EventState = record { end = g.kind.event.end; begin = g.kind.event.begin; id = e.id; payload = g.kind.event.payload } in
    let written : line ≡ id ++ comma ∷ g.part = g.is ∙ append_assoc id (comma ∷ []) g.part in
    record {
      event = other;
      saved = record { state = record { begins = g.kind.saved.state.begins; lasts = g.kind.saved.state.lasts; ends = g.kind.saved.state.ends }; id = saved.id; fields = g.kind.saved.fields };
      above = omega arith;
      is = written ∙ (ap (λ (bs : List ℕ). id ++ comma ∷ bs) g.kind.is ∙ ap (λ (bs : List ℕ). bs ++ comma ∷ row_line (as_it_is (state_row g.kind.event))) same.0);
      more = g.more;
      begins = written ∙ (ap (λ (bs : List ℕ). id ++ comma ∷ bs) g.begins ∙ (sym (append_assoc id (comma ∷ rest) g.more) ∙ ap (λ (bs : List ℕ). bs ++ g.more) (sym cut.is)));
    }

-- an id that isn't whole is completed alone
pub last_id : (types : List FieldType) (text line : List ℕ) → is_uncut false text ≡ true → CompletesId types text line → CompletesEvent types text line
last_id types text line uncut completes = λ e more saved h.
    let front = field_front text more (decimal e.id) (comma ∷ row_line (as_it_is (state_row e))) uncut (id_one e.id saved.id) refl h in completes e.id front.0 saved.id (sym front.1)

pub id_highest : (types : List FieldType) (last : ℕ) (text line : List ℕ) → last < 2 ^ 64 → FindsHighest (Some last) text (2 ^ 64 - 1) → line ≡ (decimal last ++ codes ",0,inf") ++ default_fields types → CompletesId types text line
id_highest types last text line bound finds is = λ id rest fits h.
    let found = finds id rest (omega arith) h in
    id_goes_on types text line found.1.0 id last bound found.0 found.1.1 (is ∙ append_assoc (decimal last) (codes ",0,inf") (default_fields types))
