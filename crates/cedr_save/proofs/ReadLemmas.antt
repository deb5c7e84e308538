-- What is read from the line of an event, and what a line says that is read.
use Rattle.std.proofs.Common.{◌≡◌, ℕ, zero, suc, ◌-◌, ◌^◌, ◌<◌, ◌≤◌, inl, inr, List, [], ◌∷◌, ◌++◌, map, Bool, true, false, cond, eqb, ◌&&◌, ◌||◌, Option, None, Some, Result, Ok, Err, refl, ap, sym, ◌∙◌, subst, arith, append-nil, ℤ, pos, Bor}
use Rattle.std.specs.Prelude.{option_map, nat_le, nat_lt, nat_eq, codes, decimal}
use Rattle.std.specs.Fmt.{signed_decimal}
use Rattle.std.specs.List.{list_any, flat_map, starts_with}
use Rattle.std.specs.Str.{bytes_eq}
use Rattle.std.specs.Str.Parse.{digits_value}
use Rattle.std.proofs.lemmas.Bool.{or_from, or_parts, and_parts, eqb-true, ltb-true, leb-true}
use Rattle.std.proofs.lemmas.List.Folds.{list_any-append}
use Rattle.cedr_base.specs.declared.time.TheConstants.{FOREVER}
use Rattle.cedr_base.specs.declared.row.Row.{Row}
use Rattle.cedr_base.specs.declared.field.Field.{Field}
use Rattle.cedr_base.specs.declared.field.Field.TheVariants.{Number, Bytes}
use Rattle.cedr_base.specs.declared.field.FieldType.{FieldType}
use Rattle.cedr_base.specs.declared.field.FieldType.TheVariants as types
use Rattle.cedr_base.specs.Bytes.{comma, line_feed}
use Rattle.cedr_text.specs.declared.event_line.Shape.{Shape}
use Rattle.cedr_text.specs.declared.event_line.Shape.TheVariants.{AnyText, Fields}
use Rattle.cedr_text.specs.declared.fault.LineFault.{LineFault}
use Rattle.cedr_text.specs.declared.fault.LineFault.TheVariants.{BadForm, EmptyLife}
use Rattle.cedr_text.specs.Lines.{has_line_feed}
use Rattle.cedr_text.specs.Numbers.{is_numeral, whole_number, id_value, begin_value, time_value, int_value, negated}
use Rattle.cedr_text.specs.Parts.{parts_of, parts_left, CutsField}
use Rattle.cedr_text.specs.Quoting.{has_quote, has_comma, IsField, AreFields, line_fields, byte_order_mark}
use Rattle.cedr_text.specs.Reading.{has_return, breaks_form, field_value, with_field, typed_payload, version, version_by, version_of, version_from, version_reading}
use Rattle.cedr_text.specs.Shapes.{ShapeHasTypes}
use Rattle.cedr_text.specs.Texts.{quote, carriage_return, is_special, doubled, quoted, time_text, field_text, payload_text}
use Rattle.cedr_text.proofs.RuleLemmas.{fields_are_cut}
use Rattle.cedr_guard.specs.declared.state.EventState.{EventState}
use Rattle.cedr_guard.specs.Judging.{row_lives}
use Rattle.cedr_guard.specs.States.{as_it_is}
use Rattle.cedr_guard.specs.Spelt.{state_row, state_with, IsState}
use Rattle.cedr_save.specs.Checkpoints.{IsSmall, ends_line, HasType, AreTyped, HasId, row_line, event_line}
use Rattle.cedr_save.specs.Lines.{bare_event, IsSavedEvent, IsLoose, AreLoose, IsVersion, SaysVersion, IsWithdrawn, ReadsEvent, ReadsLiving}
use Rattle.cedr_save.proofs.TextLemmas.{HasNone, none-cons, digits_none, time_none, comma_no_time, quote_no_time, signed_none, no_ends, both_ends, whole_decimal, time_read, finite_text, int_read}
use Rattle.cedr_guard.proofs.StateLemmas.{lives_as, as_living, as_gone}
use Rattle.cedr_save.proofs.ListLemmas.{part_before, part_alone, first_same, rest_same}
use Rattle.cedr_save.proofs.LineLemmas.{event_none, starts_digit, event_starts, event_parts}

-- ---- the fields of a line

abbrev pub value_of : Field → List ℕ
value_of (Number n) = signed_decimal n
value_of (Bytes text) = text

no_special : (text : List ℕ) → list_any is_special text ≡ false → (has_quote text ≡ false) × (has_comma text ≡ false)
no_special [] none = (refl, refl)
no_special (b ∷ text) none =
    let parts = or_parts (is_special b) (list_any is_special text) none in
    let one = or_parts ((eqb b comma || eqb b quote) || eqb b carriage_return) (eqb b line_feed) parts.0 in
    let two = or_parts (eqb b comma || eqb b quote) (eqb b carriage_return) one.0 in
    let three = or_parts (eqb b comma) (eqb b quote) two.0 in
    let rest = no_special text parts.1 in
    (or_from (eqb b quote) (has_quote text) three.1 rest.0, or_from (eqb b comma) (has_comma text) three.0 rest.1)

text_field_at : (b : Bool) (text : List ℕ) → list_any is_special text ≡ b → IsField (cond b (quoted text) text) text
text_field_at true text is = inr refl
text_field_at false text is = let parts = no_special text is in inl (parts.0, parts.1, refl)

pub is_field : (type : FieldType) (field : Field) → HasType type field → IsField (field_text field) (value_of field)
is_field types.Number (Number n) is = inl (signed_none (λ b. eqb b quote) quote_no_time.digits refl n is, signed_none (λ b. eqb b comma) comma_no_time.digits refl n is, refl)
is_field types.Number (Bytes text) is = absurd is
is_field types.Bytes (Number n) is = absurd is
is_field types.Bytes (Bytes text) is = text_field_at (list_any is_special text) text refl

are_fields : (text value : List ℕ) (types : List FieldType) (fields : List Field) → IsField text value → AreTyped types fields → AreFields (text ++ payload_text fields) (value ∷ map value_of fields)
are_fields text value [] [] is are = subst (λ (t : List ℕ). IsField t value) (sym (append-nil text)) is
are_fields text value [] (field ∷ fields) is are = absurd are
are_fields text value (type ∷ types) [] is are = absurd are
are_fields text value (type ∷ types) (field ∷ fields) is are =
    (text, field_text field ++ payload_text fields, refl, is, are_fields (field_text field) (value_of field) types fields (is_field type field are.0) are.1)

-- the line of an event that lives
abbrev pub living_line : EventState → List ℕ
living_line e = decimal e.id ++ comma ∷ row_line (state_row e)

pub living_is : (e : EventState) → row_lives (state_row e) ≡ true → event_line e ≡ living_line e
living_is e living = ap (λ (b : Bool). decimal e.id ++ comma ∷ row_line (cond b (state_row e) (record (state_row e) { payload = [] }))) living

pub bare_time : (t : ℕ) → t ≤ FOREVER → IsField (time_text t) (time_text t)
bare_time t low = inl (time_none (λ b. eqb b quote) t quote_no_time low, time_none (λ b. eqb b comma) t comma_no_time low, refl)

pub living_fields : (types : List FieldType) (e : EventState) → IsSavedEvent types e → row_lives (state_row e) ≡ true → line_fields (living_line e) ≡ Some (decimal e.id ∷ time_text e.begin ∷ time_text e.end ∷ map value_of e.payload)
living_fields types e saved living =
    let low = saved.state.begins in
    fields_are_cut (living_line e) (decimal e.id ∷ time_text e.begin ∷ time_text e.end ∷ map value_of e.payload) (
      decimal e.id,
      row_line (state_row e),
      refl,
      inl (digits_none (λ b. eqb b quote) quote_no_time.digits e.id saved.id, digits_none (λ b. eqb b comma) comma_no_time.digits e.id saved.id, refl),
      (time_text e.begin, time_text e.end ++ payload_text e.payload, refl, bare_time e.begin (omega arith), are_fields (time_text e.end) (time_text e.end) types e.payload (bare_time e.end saved.state.ends) (saved.fields living)),
    )

-- ---- what is read

no_mark : (line : List ℕ) → starts_digit line ≡ true → starts_with nat_eq line byte_order_mark ≡ false
no_mark [] digit = refl
no_mark (c ∷ cs) digit =
    let high = leb-true c 57 (and_parts (nat_le 48 c) (nat_le c 57) digit).1 in
    at (eqb 0xEF c) _ refl high where
      at : (b rest : Bool) → eqb 0xEF c ≡ b → c ≤ 57 → (b && rest) ≡ false
      at true rest is low = absurd (let e = eqb-true 0xEF c is in omega arith)
      at false rest is low = refl

pub unbroken_line : (types : List FieldType) (e : EventState) → IsSavedEvent types e → breaks_form (event_line e) ≡ false
unbroken_line types e saved =
    let ends = no_ends (event_line e) (event_none types e saved) in
    or_from (has_return (event_line e)) (has_line_feed (event_line e) || starts_with nat_eq (event_line e) byte_order_mark) ends.0
    (or_from (has_line_feed (event_line e)) (starts_with nat_eq (event_line e) byte_order_mark) ends.1 (no_mark (event_line e) (event_starts e saved.id)))

typed_field : (type : FieldType) (field : Field) → HasType type field → field_value type (value_of field) ≡ Some field
typed_field types.Number (Number n) is = ap (option_map (λ (z : ℤ). Number z)) (int_read n is)
typed_field types.Number (Bytes text) is = absurd is
typed_field types.Bytes (Number n) is = absurd is
typed_field types.Bytes (Bytes text) is = refl

pub typed_read : (types : List FieldType) (fields : List Field) → AreTyped types fields → typed_payload types (map value_of fields) ≡ Ok (Some fields)
typed_read [] [] are = refl
typed_read [] (field ∷ fields) are = absurd are
typed_read (type ∷ types) [] are = absurd are
typed_read (type ∷ types) (field ∷ fields) are =
    ap (λ (o : Option Field). with_field o (typed_payload types (map value_of fields))) (typed_field type field are.0) ∙ ap (with_field (Some field)) (typed_read types fields are.1)

by_parts : (id begin end : Option ℕ) (payload : Result (Option (List Field)) LineFault) (e : EventState) → id ≡ Some e.id → begin ≡ Some e.begin → end ≡ Some e.end → payload ≡ Ok (Some e.payload) → row_lives (state_row e) ≡ true
    → version_by id begin end payload ≡ Ok (e.id, state_row e)
by_parts id begin end payload e i b t p living =
    ap (λ (o : Option ℕ). version_by o begin end payload) i
    ∙ (ap (λ (o : Option ℕ). version_by (Some e.id) o end payload) b
    ∙ (ap (λ (o : Option ℕ). version_by (Some e.id) (Some e.begin) o payload) t
    ∙ (ap (λ (r : Result (Option (List Field)) LineFault). version_by (Some e.id) (Some e.begin) (Some e.end) r) p
    ∙ ap (λ (test : Bool). cond test (version e.id e.begin e.end (Some e.payload)) (Err EmptyLife)) living)))

living_version : (shape : Shape) (types : List FieldType) (e : EventState) → ShapeHasTypes shape types → IsSavedEvent types e → row_lives (state_row e) ≡ true
    → version_of shape (decimal e.id ∷ time_text e.begin ∷ time_text e.end ∷ map value_of e.payload) ≡ Ok (e.id, state_row e)
living_version AnyText types e has saved living = absurd has
living_version (Fields items) types e has saved living =
    let low = saved.state.begins in
    let fits = saved.id in
    by_parts (id_value (decimal e.id)) (begin_value (time_text e.begin)) (time_value (time_text e.end)) (typed_payload items.items (map value_of e.payload)) e
    (whole_decimal (2 ^ 64 - 1) e.id (omega arith) fits)
    (ap begin_value (finite_text e.begin low) ∙ whole_decimal (FOREVER - 1) e.begin (omega arith) (omega arith))
    (time_read e.end saved.state.ends)
    (ap (λ (ts : List FieldType). typed_payload ts (map value_of e.payload)) has ∙ typed_read types e.payload (saved.fields living)) living

-- an event that lives is read from its line
pub living_read : (shape : Shape) (types : List FieldType) (e : EventState) → ShapeHasTypes shape types → IsSavedEvent types e → row_lives (state_row e) ≡ true → version_reading shape (event_line e) ≡ Ok (e.id, state_row e)
living_read shape types e has saved living =
    ap (λ (b : Bool). cond b (Err BadForm) (version_from shape (line_fields (event_line e)))) (unbroken_line types e saved)
    ∙ (ap (λ (line : List ℕ). version_from shape (line_fields line)) (living_is e living)
    ∙ (ap (version_from shape) (living_fields types e saved living) ∙ living_version shape types e has saved living))

-- ---- what a line says that is read

undoubled_none : (b : Bool) (c : ℕ) → HasNone ends_line (cond b (quote ∷ quote ∷ []) (c ∷ [])) → eqb c quote ≡ b → ends_line c ≡ false
undoubled_none true c none is = ap ends_line (eqb-true c quote is)
undoubled_none false c none is = (or_parts (ends_line c) false none).0

-- a text that is doubled in one line stands in one line
pub doubled_none : (text : List ℕ) → HasNone ends_line (flat_map doubled text) → HasNone ends_line text
doubled_none [] none = refl
doubled_none (b ∷ text) none =
    let parts = or_parts (list_any ends_line (doubled b)) (list_any ends_line (flat_map doubled text)) (sym (list_any-append ends_line (doubled b) (flat_map doubled text)) ∙ none) in
    none-cons ends_line b text (undoubled_none (eqb b quote) b parts.0 refl) (doubled_none text parts.1)

text_none_at : (b : Bool) (text : List ℕ) → HasNone ends_line (cond b (quoted text) text) → HasNone ends_line text
text_none_at true text none =
    let behind = (or_parts (ends_line quote) (list_any ends_line (flat_map doubled text ++ quote ∷ [])) none).1 in
    doubled_none text (or_parts (list_any ends_line (flat_map doubled text)) (list_any ends_line (quote ∷ [])) (sym (list_any-append ends_line (flat_map doubled text) (quote ∷ [])) ∙ behind)).0
text_none_at false text none = none

tight_field : (type : FieldType) (field : Field) → IsLoose type field → HasNone ends_line (field_text field) → HasType type field
tight_field types.Number (Number n) is none = is
tight_field types.Number (Bytes text) is none = absurd is
tight_field types.Bytes (Number n) is none = absurd is
tight_field types.Bytes (Bytes text) is none = text_none_at (list_any is_special text) text none

-- fields that stand in one line have texts in one line
pub tight : (types : List FieldType) (fields : List Field) → AreLoose types fields → HasNone ends_line (payload_text fields) → AreTyped types fields
tight [] [] are none = tt
tight [] (field ∷ fields) are none = are
tight (type ∷ types) [] are none = are
tight (type ∷ types) (field ∷ fields) are none =
    let parts = or_parts (list_any ends_line (comma ∷ field_text field)) (list_any ends_line (payload_text fields)) (sym (list_any-append ends_line (comma ∷ field_text field) (payload_text fields)) ∙ none) in
    (tight_field type field are.0 (or_parts (ends_line comma) (list_any ends_line (field_text field)) parts.0).1, tight types fields are.1 parts.1)

whole_at : (b : Bool) (n last m : ℕ) → (b ≡ true → n ≤ last) → cond b (Some n) None ≡ Some m → m ≤ last
whole_at true n last m low h = let l = low refl in let e : n ≡ m = some_same n m h in omega arith where
  some_same : (a c : ℕ) → ◌≡◌ {A = Option ℕ} (Some a) (Some c) → a ≡ c
  some_same a c e = cc
whole_at false n last m low h = absurd (let e = h in cc)

-- a number that is read is in range
pub whole_low : (last : ℕ) (text : List ℕ) (n : ℕ) → whole_number last text ≡ Some n → n ≤ last
whole_low last text n h =
    whole_at (is_numeral text && nat_le (digits_value 10 text) last) (digits_value 10 text) last n
    (λ test. leb-true (digits_value 10 text) last (and_parts (is_numeral text) (nat_le (digits_value 10 text) last) test).1) h

time_low_at : (b : Bool) (text : List ℕ) (n : ℕ) → cond b (Some FOREVER) (whole_number (FOREVER - 1) text) ≡ Some n → n ≤ FOREVER
time_low_at true text n h = some_low n h where
  some_low : (n : ℕ) → ◌≡◌ {A = Option ℕ} (Some FOREVER) (Some n) → n ≤ FOREVER
  some_low n e = let same : FOREVER ≡ n = cc in omega arith
time_low_at false text n h = let low = whole_low (FOREVER - 1) text n h in omega arith

pub time_in : (text : List ℕ) (n : ℕ) → time_value text ≡ Some n → n ≤ FOREVER
time_in text n h = time_low_at (bytes_eq text (codes "inf")) text n h

negated_small : (n : ℕ) → n ≤ 2 ^ 63 → IsSmall (negated n)
negated_small zero low = omega arith
negated_small (suc n) low = omega arith

map_minus : (o : Option ℕ) (z : ℤ) → ((n : ℕ) → o ≡ Some n → n ≤ 2 ^ 63) → option_map negated o ≡ Some z → IsSmall z
map_minus None z low h = absurd (let e = h in cc)
map_minus (Some n) z low h = subst IsSmall (same (negated n) z h) (negated_small n (low n refl)) where
  same : (a b : ℤ) → ◌≡◌ {A = Option ℤ} (Some a) (Some b) → a ≡ b
  same a b e = cc

map_plus : (o : Option ℕ) (z : ℤ) → ((n : ℕ) → o ≡ Some n → n ≤ 2 ^ 63 - 1) → option_map pos o ≡ Some z → IsSmall z
map_plus None z low h = absurd (let e = h in cc)
map_plus (Some n) z low h = subst IsSmall (same (pos n) z h) (let l = low n refl in omega arith) where
  same : (a b : ℤ) → ◌≡◌ {A = Option ℤ} (Some a) (Some b) → a ≡ b
  same a b e = cc

int_at : (b : Bool) (c : ℕ) (digits : List ℕ) (z : ℤ) → cond b (option_map negated (whole_number (2 ^ 63) digits)) (option_map pos (whole_number (2 ^ 63 - 1) (c ∷ digits))) ≡ Some z → IsSmall z
int_at true c digits z h = map_minus (whole_number (2 ^ 63) digits) z (whole_low (2 ^ 63) digits) h
int_at false c digits z h = map_plus (whole_number (2 ^ 63 - 1) (c ∷ digits)) z (whole_low (2 ^ 63 - 1) (c ∷ digits)) h

int_small : (text : List ℕ) (z : ℤ) → int_value text ≡ Some z → IsSmall z
int_small [] z h = absurd (let e = h in cc)
int_small (c ∷ digits) z h = int_at (eqb c 45) c digits z h

number_loose : (o : Option ℤ) (field : Field) → ((z : ℤ) → o ≡ Some z → IsSmall z) → option_map (λ (z : ℤ). Number z) o ≡ Some field → IsLoose types.Number field
number_loose None field small h = absurd (let e = h in cc)
number_loose (Some z) field small h = subst (IsLoose types.Number) (same (Number z) field h) (small z refl) where
  same : (a b : Field) → ◌≡◌ {A = Option Field} (Some a) (Some b) → a ≡ b
  same a b e = cc

loose_field : (type : FieldType) (text : List ℕ) (field : Field) → field_value type text ≡ Some field → IsLoose type field
loose_field types.Number text field h = number_loose (int_value text) field (int_small text) h
loose_field types.Bytes text field h = subst (IsLoose types.Bytes) (same (Bytes text) field h) tt where
  same : (a b : Field) → ◌≡◌ {A = Option Field} (Some a) (Some b) → a ≡ b
  same a b e = cc

-- what a field and the others behind it are, where they are all in their form
record IsWith (field : Option Field) (others : Result (Option (List Field)) LineFault) (fields : List Field) : Type 0 where
  first : Field
  rest : List Field
  field_is : field ≡ Some first
  others_are : others ≡ Ok (Some rest)
  all : fields ≡ first ∷ rest

with_parts : (field : Option Field) (others : Result (Option (List Field)) LineFault) (fields : List Field) → with_field field others ≡ Ok (Some fields) → IsWith field others fields
with_parts field (Err fault) fields h = absurd (let e = h in cc)
with_parts None (Ok None) fields h = absurd (let e = h in cc)
with_parts None (Ok (Some rest)) fields h = absurd (let e = h in cc)
with_parts (Some first) (Ok None) fields h = absurd (let e = h in cc)
with_parts (Some first) (Ok (Some rest)) fields h = record { first = first; rest = rest; field_is = refl; others_are = refl; all = same (first ∷ rest) fields h } where
  same : (xs ys : List Field) → ◌≡◌ {A = Result (Option (List Field)) LineFault} (Ok (Some xs)) (Ok (Some ys)) → ys ≡ xs
  same xs ys e = cc

loose : (types : List FieldType) (texts : List (List ℕ)) (fields : List Field) → typed_payload types texts ≡ Ok (Some fields) → AreLoose types fields
loose [] [] fields h = subst (AreLoose []) (same [] fields h) tt where
  same : (xs ys : List Field) → ◌≡◌ {A = Result (Option (List Field)) LineFault} (Ok (Some xs)) (Ok (Some ys)) → xs ≡ ys
  same xs ys e = cc
loose [] (text ∷ texts) fields h = absurd (let e = h in cc)
loose (type ∷ types) [] fields h = absurd (let e = h in cc)
loose (type ∷ types) (text ∷ texts) fields h =
    let w = with_parts (field_value type text) (typed_payload types texts) fields h in
    subst (AreLoose (type ∷ types)) (sym w.all) (loose_field type text w.first w.field_is, loose types texts w.rest w.others_are)

version_at : (types : List FieldType) (test : Bool) (id begin end n : ℕ) (row : Row) (payload : Option (List Field)) → nat_lt begin end ≡ test → id < 2 ^ 64 → begin < FOREVER → end ≤ FOREVER → ((fields : List Field) → payload ≡ Some fields → AreLoose types fields)
    → cond test (version id begin end payload) (Err EmptyLife) ≡ Ok (n, row) → IsVersion types n row
version_at types true id begin end n row None lives fits low high are h = absurd (let e = h in cc)
version_at types true id begin end n row (Some payload) lives fits low high are h = subst (λ (p : ℕ × Row). IsVersion types p.0 p.1) (same (id, record { end = end; begin = begin; payload = payload }) (n, row) h) (record { id_fits = fits; lives = lives; begins = low; ends = high; fields = are payload refl }) where
  same : (a b : ℕ × Row) → ◌≡◌ {A = Result (ℕ × Row) LineFault} (Ok a) (Ok b) → a ≡ b
  same a b e = cc
version_at types false id begin end n row payload lives fits low high are h = absurd (let e = h in cc)

version_parts : (types : List FieldType) (id begin end : Option ℕ) (payload : Result (Option (List Field)) LineFault) (n : ℕ) (row : Row) → ((i : ℕ) → id ≡ Some i → i < 2 ^ 64) → ((b : ℕ) → begin ≡ Some b → b < FOREVER) → ((t : ℕ) → end ≡ Some t → t ≤ FOREVER)
    → ((fields : List Field) → payload ≡ Ok (Some fields) → AreLoose types fields) → version_by id begin end payload ≡ Ok (n, row) → IsVersion types n row
version_parts types id begin end (Err fault) n row fits low high are h = absurd (let e = h in cc)
version_parts types None begin end (Ok payload) n row fits low high are h = absurd (let e = h in cc)
version_parts types (Some i) None end (Ok payload) n row fits low high are h = absurd (let e = h in cc)
version_parts types (Some i) (Some b) None (Ok payload) n row fits low high are h = absurd (let e = h in cc)
version_parts types (Some i) (Some b) (Some t) (Ok payload) n row fits low high are h =
    version_at types (nat_lt b t) i b t n row payload refl (fits i refl) (low b refl) (high t refl) (λ fields is. are fields (ap {B = Result (Option (List Field)) LineFault} (λ (p : Option (List Field)). Ok p) is)) h

version_says : (shape : Shape) (types : List FieldType) (fields : List (List ℕ)) (n : ℕ) (row : Row) → ShapeHasTypes shape types → version_of shape fields ≡ Ok (n, row) → IsVersion types n row
version_says AnyText types fields n row has h = absurd has
version_says (Fields items) types [] n row has h = absurd (let e = h in cc)
version_says (Fields items) types (a ∷ []) n row has h = absurd (let e = h in cc)
version_says (Fields items) types (a ∷ b ∷ []) n row has h = absurd (let e = h in cc)
version_says (Fields items) types (a ∷ b ∷ c ∷ texts) n row has h =
    version_parts types (id_value a) (begin_value b) (time_value c) (typed_payload items.items texts) n row
    (λ i is. let low = whole_low (2 ^ 64 - 1) a i is in omega arith) (λ t is. let low = whole_low (FOREVER - 1) b t is in omega arith) (time_in c)
    (λ fs is. loose types texts fs (ap (λ (ts : List FieldType). typed_payload ts texts) (sym has) ∙ is)) h

from_some : (shape : Shape) (types : List FieldType) (fields : Option (List (List ℕ))) (n : ℕ) (row : Row) → ShapeHasTypes shape types → version_from shape fields ≡ Ok (n, row) → IsVersion types n row
from_some shape types None n row has h = absurd (let e = h in cc)
from_some shape types (Some fields) n row has h = version_says shape types fields n row has h

says_at : (shape : Shape) (types : List FieldType) (line : List ℕ) (b : Bool) (n : ℕ) (row : Row) → ShapeHasTypes shape types → breaks_form line ≡ b → cond b (Err BadForm) (version_from shape (line_fields line)) ≡ Ok (n, row) → SaysVersion types line n row
says_at shape types line true n row has is h = absurd (let e = h in cc)
says_at shape types line false n row has is h = record { unbroken = is; is = from_some shape types (line_fields line) n row has h }

pub line_says : (shape : Shape) (types : List FieldType) (line : List ℕ) (n : ℕ) (row : Row) → ShapeHasTypes shape types → version_reading shape line ≡ Ok (n, row) → SaysVersion types line n row
line_says shape types line n row has h = says_at shape types line (breaks_form line) n row has refl h

-- an event that was read from a line, and whose line that is, may be saved
pub living_saved : (types : List FieldType) (line : List ℕ) (e : EventState) → SaysVersion types line e.id (state_row e) → has_line_feed line ≡ false → line ≡ event_line e → IsSavedEvent types e
living_saved types line e says none is =
    let v = says.is in
    let returns = (or_parts (has_return line) (has_line_feed line || starts_with nat_eq line byte_order_mark) says.unbroken).0 in
    let whole : HasNone ends_line (living_line e) = subst (HasNone ends_line) (is ∙ living_is e v.lives) (both_ends line returns none) in
    let row = (or_parts (ends_line comma) (list_any ends_line (row_line (state_row e))) (or_parts (list_any ends_line (decimal e.id)) (list_any ends_line (comma ∷ row_line (state_row e))) (sym (list_any-append ends_line (decimal e.id) (comma ∷ row_line (state_row e))) ∙ whole)).1).1 in
    let end = (or_parts (ends_line comma) (list_any ends_line (time_text e.end ++ payload_text e.payload)) (or_parts (list_any ends_line (time_text e.begin)) (list_any ends_line (comma ∷ (time_text e.end ++ payload_text e.payload))) (sym (list_any-append ends_line (time_text e.begin) (comma ∷ (time_text e.end ++ payload_text e.payload))) ∙ row)).1).1 in
    let payload = (or_parts (list_any ends_line (time_text e.end)) (list_any ends_line (payload_text e.payload)) (sym (list_any-append ends_line (time_text e.end) (payload_text e.payload)) ∙ end)).1 in
    let long = ltb-true e.begin e.end v.lives in
    record { state = record { begins = v.begins; lasts = omega arith; ends = v.ends }; id = v.id_fits; fields = λ living. tight types e.payload v.fields payload }

-- ---- what a reader of an event's line answers

same_pair : (a b : ℕ × Row) → ◌≡◌ {A = Result (ℕ × Row) LineFault} (Ok a) (Ok b) → a ≡ b
same_pair a b e = cc

-- what is read as a version is the event of the line, where it is one that lives
pub living_found : (shape : Shape) (types : List FieldType) (line : List ℕ) (id : ℕ) (row : Row) → ShapeHasTypes shape types → version_reading shape line ≡ Ok (id, row) → ReadsLiving (Some (state_with id row)) types line
living_found shape types line id row has read = record {
  some = line_says shape types line id row has read;
  all = λ e saved living is.
      ap {B = Option EventState} (λ (p : ℕ × Row). Some (state_with p.0 p.1)) (same_pair (id, row) (e.id, state_row e) (sym read ∙ (ap (version_reading shape) is ∙ living_read shape types e has saved living)));
}

not_both : (fault : LineFault) (p : ℕ × Row) → ◌≡◌ {A = Result (ℕ × Row) LineFault} (Err fault) (Ok p) → ⊥
not_both fault p h = cc

pub living_none : (shape : Shape) (types : List FieldType) (line : List ℕ) (fault : LineFault) → ShapeHasTypes shape types → version_reading shape line ≡ Err fault → ReadsLiving None types line
living_none shape types line fault has read = record {
  some = tt;
  all = λ e saved living is. absurd (not_both fault (e.id, state_row e) (sym read ∙ (ap (version_reading shape) is ∙ living_read shape types e has saved living)));
}

-- a withdrawn event, as it is, may be saved
pub withdrawn_saved : (types : List FieldType) (e : EventState) → IsWithdrawn e → IsSavedEvent types e
withdrawn_saved types e gone =
    let low = gone.begins in
    let same = gone.gone in
    record { state = record { begins = gone.begins; lasts = omega arith; ends = omega arith }; id = gone.id_fits; fields = λ living. absurd (let alive = ltb-true e.begin e.end living in omega arith) }

-- an event is as it is on its line
pub bare_line : (e : EventState) → event_line (bare_event e) ≡ event_line e
bare_line e = ap (λ (row : Row). decimal e.id ++ comma ∷ row_line row) (twice (row_lives (state_row e)) refl) where
  twice : (b : Bool) → row_lives (state_row e) ≡ b → as_it_is (as_it_is (state_row e)) ≡ as_it_is (state_row e)
  twice true living = as_living (as_it_is (state_row e)) (lives_as (state_row e) ∙ living)
  twice false gone = as_gone (as_it_is (state_row e)) (lives_as (state_row e) ∙ gone) ∙ (ap (λ (row : Row). record row { payload = [] }) (as_gone (state_row e) gone) ∙ sym (as_gone (state_row e) gone))

-- ---- the times at the front of a line

-- the first fields of an event's line
pub record IsTimes (line : List ℕ) (e : EventState) : Type 0 where
  pub rest : List (List ℕ)
  pub parts : parts_of comma line ≡ decimal e.id ∷ time_text e.begin ∷ time_text e.end ∷ rest

end_parts : (end : ℕ) (fields : List Field) → end ≤ FOREVER → (rest : List (List ℕ)) × (parts_of comma (time_text end ++ payload_text fields) ≡ time_text end ∷ rest)
end_parts end [] low = ([], ap (parts_of comma) (append-nil (time_text end)) ∙ part_alone comma (time_text end) (time_none (λ b. eqb b comma) end comma_no_time low))
end_parts end (field ∷ fields) low = (parts_of comma (field_text field ++ payload_text fields), part_before comma (time_text end) (field_text field ++ payload_text fields) (time_none (λ b. eqb b comma) end comma_no_time low))

row_parts : (e : EventState) (b : Bool) → IsState e → (rest : List (List ℕ)) × (parts_of comma (row_line (cond b (state_row e) (record (state_row e) { payload = [] }))) ≡ time_text e.begin ∷ time_text e.end ∷ rest)
row_parts e true state =
    let low = state.begins in
    let r = end_parts e.end e.payload state.ends in
    (r.0, part_before comma (time_text e.begin) (time_text e.end ++ payload_text e.payload) (time_none (λ b. eqb b comma) e.begin comma_no_time (omega arith)) ∙ ap (λ (ps : List (List ℕ)). time_text e.begin ∷ ps) r.1)
row_parts e false state =
    let low = state.begins in
    let r = end_parts e.end [] state.ends in
    (r.0, part_before comma (time_text e.begin) (time_text e.end ++ []) (time_none (λ b. eqb b comma) e.begin comma_no_time (omega arith)) ∙ ap (λ (ps : List (List ℕ)). time_text e.begin ∷ ps) r.1)

pub event_times : (e : EventState) → IsState e → HasId e → IsTimes (event_line e) e
event_times e state id =
    let r = row_parts e (row_lives (state_row e)) state in
    record { rest = r.0; parts = event_parts e id ∙ ap (λ (ps : List (List ℕ)). decimal e.id ∷ ps) r.1 }

abbrev pub left_of : Option (Bor (List ℕ)) → List (List ℕ)
left_of rest = parts_left comma (option_map (λ (r : Bor (List ℕ)). r.now) rest)

cut_at : (Holds : List ℕ → Type 0) (parts rest : List (List ℕ)) (first : List ℕ) (others : List (List ℕ)) → CutsField parts rest Holds → parts ≡ first ∷ others → Holds first × (rest ≡ others)
cut_at Holds parts rest first others cut is =
    (subst Holds (first_same cut.field first rest others (sym cut.parts_are ∙ is)) cut.holds, rest_same cut.field first rest others (sym cut.parts_are ∙ is))

-- the id, and what is left behind it
pub id_cut : (line : List ℕ) (e : EventState) (id : Option ℕ) (rest : Option (Bor (List ℕ))) → IsState e → (fits : HasId e) → line ≡ event_line e → CutsField (parts_of comma line) (left_of rest) (λ field. id ≡ whole_number (2 ^ 64 - 1) field)
    → (id ≡ Some e.id) × ((others : List (List ℕ)) × (left_of rest ≡ time_text e.begin ∷ time_text e.end ∷ others))
id_cut line e id rest state fits is cut =
    let t = event_times e state fits in
    let c = cut_at (λ field. id ≡ whole_number (2 ^ 64 - 1) field) (parts_of comma line) (left_of rest) (decimal e.id) (time_text e.begin ∷ time_text e.end ∷ t.rest) cut (ap (parts_of comma) is ∙ t.parts) in
    (c.0 ∙ whole_decimal (2 ^ 64 - 1) e.id (omega arith) fits, (t.rest, c.1))

-- the begin, and what is left behind it
pub begin_cut : (text : List ℕ) (e : EventState) (others : List (List ℕ)) (begin : Option ℕ) (rest : Option (Bor (List ℕ))) → IsState e → parts_of comma text ≡ time_text e.begin ∷ time_text e.end ∷ others → CutsField (parts_of comma text) (left_of rest) (λ field. begin ≡ whole_number (FOREVER - 1) field)
    → (begin ≡ Some e.begin) × (left_of rest ≡ time_text e.end ∷ others)
begin_cut text e others begin rest state is cut =
    let low = state.begins in
    let c = cut_at (λ field. begin ≡ whole_number (FOREVER - 1) field) (parts_of comma text) (left_of rest) (time_text e.begin) (time_text e.end ∷ others) cut is in
    (c.0 ∙ (ap (whole_number (FOREVER - 1)) (finite_text e.begin low) ∙ whole_decimal (FOREVER - 1) e.begin (omega arith) (omega arith)), c.1)

-- the end
pub end_cut : (text : List ℕ) (e : EventState) (others : List (List ℕ)) (end : Option ℕ) (rest : List (List ℕ)) → IsState e → parts_of comma text ≡ time_text e.end ∷ others → CutsField (parts_of comma text) rest (λ field. end ≡ time_value field) → end ≡ Some e.end
end_cut text e others end rest state is cut =
    (cut_at (λ field. end ≡ time_value field) (parts_of comma text) rest (time_text e.end) others cut is).0 ∙ time_read e.end state.ends

pub left_none : (rest : Option (Bor (List ℕ))) (first : List ℕ) (others : List (List ℕ)) → rest ≡ None → left_of rest ≡ first ∷ others → ⊥
left_none None first others none is = cc
left_none (Some r) first others none is = cc

pub left_some : (rest : Option (Bor (List ℕ))) (text : Bor (List ℕ)) (parts : List (List ℕ)) → rest ≡ Some text → left_of rest ≡ parts → parts_of comma text.now ≡ parts
left_some None text parts some is = absurd (let e = some in cc)
left_some (Some r) text parts some is = ap (λ (o : Option (Bor (List ℕ))). left_of o) (sym some) ∙ is

pub none_some : (o : Option ℕ) (n : ℕ) → o ≡ None → o ≡ Some n → ⊥
none_some o n none some = let e = sym none ∙ some in cc

pub some_number : (o : Option ℕ) (m n : ℕ) → o ≡ Some m → o ≡ Some n → m ≡ n
some_number o m n one other = let e = sym one ∙ other in same m n e where
  same : (a b : ℕ) → ◌≡◌ {A = Option ℕ} (Some a) (Some b) → a ≡ b
  same a b e = cc

-- ---- what is read from a line, at last

pub found_withdrawn : (types : List FieldType) (line : List ℕ) (e : EventState) → IsWithdrawn e → line ≡ event_line e → ReadsEvent (Some e) types line
found_withdrawn types line e gone is = (withdrawn_saved types e gone, λ low. gone.bare, is)

pub found_living : (types : List FieldType) (line : List ℕ) (e : EventState) → SaysVersion types line e.id (state_row e) → has_line_feed line ≡ false → line ≡ event_line e → ReadsEvent (Some e) types line
found_living types line e says none is =
    let lives = says.is.lives in
    (living_saved types line e says none is, λ low. absurd (let alive = ltb-true e.begin e.end lives in omega arith), is)

-- what the reader of withdrawn events says of each event whose line this is
abbrev pub SaysWithdrawn : Option EventState → List ℕ → Type 0
SaysWithdrawn found line = (e : EventState) → IsState e → HasId e → line ≡ event_line e → found ≡ cond (row_lives (state_row e)) None (Some (bare_event e))

none_event : (e : EventState) → ◌≡◌ {A = Option EventState} None (Some e) → ⊥
none_event e h = cc

same_event : (e f : EventState) → ◌≡◌ {A = Option EventState} (Some e) (Some f) → e ≡ f
same_event e f h = cc

gone_at : (b : Bool) (found e : EventState) → Some found ≡ cond b None (Some e) → found ≡ e
gone_at true found e h = absurd (none_event found (sym h))
gone_at false found e h = same_event found e h

lives_at : (b : Bool) (e : EventState) → None ≡ cond b None (Some e) → b ≡ true
lives_at true e h = refl
lives_at false e h = absurd (none_event e h)

pub other_withdrawn : (types : List FieldType) (line : List ℕ) (found : EventState) → SaysWithdrawn (Some found) line → (line ≡ event_line found → ⊥) → ReadsEvent None types line
other_withdrawn types line found says other e saved is =
    other (is ∙ (sym (bare_line e) ∙ ap event_line (sym (gone_at (row_lives (state_row e)) found (bare_event e) (says e saved.state saved.id is)))))

pub other_living : (types : List FieldType) (line : List ℕ) (found : EventState) → SaysWithdrawn None line → ReadsLiving (Some found) types line → (line ≡ event_line found → ⊥) → ReadsEvent None types line
other_living types line found says reads other e saved is =
    let lives = lives_at (row_lives (state_row e)) (bare_event e) (says e saved.state saved.id is) in
    other (is ∙ ap event_line (sym (same_event found e (reads.all e saved lives is))))

pub no_living : (types : List FieldType) (line : List ℕ) → SaysWithdrawn None line → ReadsLiving None types line → ReadsEvent None types line
no_living types line says reads e saved is =
    let lives = lives_at (row_lives (state_row e)) (bare_event e) (says e saved.state saved.id is) in
    none_event e (reads.all e saved lives is)
