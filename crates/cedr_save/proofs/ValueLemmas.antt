-- The values of a line's fields: what is read of them has the types of the line's shape, and written again it is no longer.
use Rattle.std.proofs.Common.{◌≡◌, ℕ, zero, suc, ◌+◌, ◌-◌, ◌^◌, ◌<◌, ◌≤◌, inl, inr, List, [], ◌∷◌, ◌++◌, length, map, Bool, true, false, cond, eqb, ◌&&◌, ◌||◌, Option, None, Some, IfSome, Result, Ok, Err, refl, ap, sym, ◌∙◌, subst, arith, ℤ, pos}
use Rattle.std.specs.Prelude.{option_map, nat_le, codes, decimal, Vec}
use Rattle.std.specs.Global.{Global}
use Rattle.std.specs.Char.{is_ascii_digit}
use Rattle.std.specs.Fmt.{signed_decimal}
use Rattle.std.specs.List.{list_any, list_all, flat_map}
use Rattle.std.specs.Str.{bytes_eq}
use Rattle.std.specs.Str.Parse.{AllDigits, digits_value}
use Rattle.std.proofs.lemmas.Bool.{or_from, or_parts, and_parts, leb-true, eq-eqb}
use Rattle.std.proofs.lemmas.Fmt.{length-decimal-le}
use Rattle.std.proofs.lemmas.Int.Digits.{digits_value-lt}
use Rattle.std.proofs.lemmas.List.{length-append}
use Rattle.std.proofs.lemmas.List.Folds.{list_any-append}
use Rattle.std.proofs.lemmas.Slice.Eq.{bytes_eq-Decides}
use Rattle.std.proofs.lemmas.Str.{digit_value_digit}
use Rattle.cedr_base.specs.declared.time.TheConstants.{FOREVER}
use Rattle.cedr_base.specs.declared.field.Field.{Field}
use Rattle.cedr_base.specs.declared.field.Field.TheVariants.{Number, Bytes}
use Rattle.cedr_base.specs.declared.field.FieldType.{FieldType}
use Rattle.cedr_base.specs.declared.field.FieldType.TheVariants as types
use Rattle.cedr_base.specs.Bytes.{comma, line_feed}
use Rattle.cedr_text.specs.declared.event_line.Shape.{Shape}
use Rattle.cedr_text.specs.declared.event_line.Shape.TheVariants.{AnyText, Fields}
use Rattle.cedr_text.specs.declared.fault.LineFault.{LineFault}
use Rattle.cedr_text.specs.declared.fault.LineFault.TheVariants.{BadForm}
use Rattle.cedr_text.specs.Numbers.{is_numeral, whole_number, id_value, begin_value, time_value, int_value, negated}
use Rattle.cedr_text.specs.Quoting.{has_quote, has_comma, IsField, AreFields}
use Rattle.cedr_text.specs.Reading.{field_value, with_field, typed_payload, payload_of}
use Rattle.cedr_text.specs.Texts.{quote, carriage_return, is_special, doubled, quoted, time_text, text_text, field_text, payload_text}
use Rattle.cedr_text.proofs.Numerals.{digit_range}
use Rattle.cedr_save.specs.Checkpoints.{IsSmall, ends_line, HasType, AreTyped}
use Rattle.cedr_save.proofs.TextLemmas.{HasNone, finite_text}
use Rattle.cedr_save.proofs.ReadLemmas.{doubled_none}

-- ---- numbers

all_digits : (text : List ℕ) → list_all is_ascii_digit text ≡ true → AllDigits 10 text
all_digits [] all = tt
all_digits (c ∷ cs) all =
    let parts = and_parts (is_ascii_digit c) (list_all is_ascii_digit cs) all in
    let range = digit_range c parts.0 in
    let high = range.1 in
    (omega (arith, digit_value_digit c range), all_digits cs parts.1)

numeral_parts : (text : List ℕ) → is_numeral text ≡ true → (0 < length text) × (list_all is_ascii_digit text ≡ true)
numeral_parts [] numeral = absurd (let e = numeral in cc)
numeral_parts (c ∷ cs) numeral = (omega arith, numeral)

-- a number has no more digits than a numeral that spells it
short_decimal : (text : List ℕ) → is_numeral text ≡ true → digits_value 10 text < 2 ^ 64 → length (decimal (digits_value 10 text)) ≤ length text
short_decimal text numeral fits =
    let parts = numeral_parts text numeral in
    length-decimal-le (length text) (digits_value 10 text) parts.0 (digits_value-lt 10 text (all_digits text parts.1)) fits

-- a number is at most the last one, and has no more digits than so many
record IsShort (last len : ℕ) (n : ℕ) : Type 0 where
  low : n ≤ last
  short : length (decimal n) ≤ len

whole_at : (test : Bool) (last : ℕ) (text : List ℕ) → last < 2 ^ 64 → (is_numeral text && nat_le (digits_value 10 text) last) ≡ test → IfSome (cond test (Some (digits_value 10 text)) None) (IsShort last (length text))
whole_at true last text fits is =
    let parts = and_parts (is_numeral text) (nat_le (digits_value 10 text) last) is in
    let low = leb-true (digits_value 10 text) last parts.1 in
    record { low = low; short = short_decimal text parts.0 (omega arith) }
whole_at false last text fits is = tt

whole_short : (last : ℕ) (text : List ℕ) → last < 2 ^ 64 → IfSome (whole_number last text) (IsShort last (length text))
whole_short last text fits = whole_at (is_numeral text && nat_le (digits_value 10 text) last) last text fits refl

-- an id has 64 bits
abbrev pub IsShortId : ℕ → ℕ → Type 0
IsShortId len id = (id < 2 ^ 64) × (length (decimal id) ≤ len)

id_at : (id : Option ℕ) (len : ℕ) → IfSome id (IsShort (2 ^ 64 - 1) len) → IfSome id (IsShortId len)
id_at None len is = tt
id_at (Some id) len is = let low = is.low in (omega arith, is.short)

pub id_short : (text : List ℕ) → IfSome (id_value text) (IsShortId (length text))
id_short text = id_at (id_value text) (length text) (whole_short (2 ^ 64 - 1) text (omega arith))

-- the text of a time has at most so many bytes
abbrev pub IsShortTime : ℕ → ℕ → Type 0
IsShortTime len time = length (time_text time) ≤ len

finite_at : (time : Option ℕ) (len : ℕ) → IfSome time (IsShort (FOREVER - 1) len) → IfSome time (IsShortTime len)
finite_at None len is = tt
finite_at (Some time) len is = let low = is.low in let short = is.short in omega (arith, ap (λ (bytes : List ℕ). length bytes) (finite_text time (omega arith)))

pub begin_short : (text : List ℕ) → IfSome (begin_value text) (IsShortTime (length text))
begin_short text = finite_at (begin_value text) (length text) (whole_short (FOREVER - 1) text (omega arith))

forever_text : time_text FOREVER ≡ codes "inf"
forever_text = ap (λ (b : Bool). cond b (codes "inf") (decimal FOREVER)) (eq-eqb FOREVER FOREVER refl)

time_at : (test : Bool) (text : List ℕ) (time : Option ℕ) → (test ≡ true → text ≡ codes "inf") → IfSome time (IsShortTime (length text)) → IfSome (cond test (Some FOREVER) time) (IsShortTime (length text))
time_at true text time word is = omega (arith, ap (λ (bytes : List ℕ). length bytes) (word refl), ap (λ (bytes : List ℕ). length bytes) forever_text)
time_at false text time word is = is

pub time_short : (text : List ℕ) → IfSome (time_value text) (IsShortTime (length text))
time_short text = time_at (bytes_eq text (codes "inf")) text (begin_value text) (bytes_eq-Decides text (codes "inf")).0 (begin_short text)

-- a number with sign has 64 bits, and no more bytes than so many
abbrev IsShortInt : ℕ → ℤ → Type 0
IsShortInt len z = IsSmall z × (length (signed_decimal z) ≤ len)

negated_short : (n : Option ℕ) (len : ℕ) → IfSome n (IsShort (2 ^ 63) len) → IfSome (option_map negated n) (IsShortInt (suc len))
negated_short None len is = tt
negated_short (Some zero) len is = let short = is.short in (omega arith, omega arith)
negated_short (Some (suc n)) len is = let low = is.low in let short = is.short in (omega arith, omega arith)

pos_short : (n : Option ℕ) (len : ℕ) → IfSome n (IsShort (2 ^ 63 - 1) len) → IfSome (option_map pos n) (IsShortInt len)
pos_short None len is = tt
pos_short (Some n) len is = let low = is.low in (omega arith, is.short)

int_at : (test : Bool) (one other : Option ℤ) (len : ℕ) → IfSome one (IsShortInt len) → IfSome other (IsShortInt len) → IfSome (cond test one other) (IsShortInt len)
int_at true one other len is may = is
int_at false one other len is may = may

int_short : (text : List ℕ) → IfSome (int_value text) (IsShortInt (length text))
int_short [] = tt
int_short (c ∷ digits) =
    int_at (eqb c 45) (option_map negated (whole_number (2 ^ 63) digits)) (option_map pos (whole_number (2 ^ 63 - 1) (c ∷ digits))) (suc (length digits))
    (negated_short (whole_number (2 ^ 63) digits) (length digits) (whole_short (2 ^ 63) digits (omega arith)))
    (pos_short (whole_number (2 ^ 63 - 1) (c ∷ digits)) (suc (length digits)) (whole_short (2 ^ 63 - 1) (c ∷ digits) (omega arith)))

-- ---- texts

doubled_one : (b : ℕ) (test : Bool) → 1 ≤ length (cond test (quote ∷ quote ∷ []) (b ∷ []))
doubled_one b true = omega arith
doubled_one b false = omega arith

doubled_longer : (text : List ℕ) → length text ≤ length (flat_map doubled text)
doubled_longer [] = omega arith
doubled_longer (b ∷ text) = omega (arith, length-append (doubled b) (flat_map doubled text), doubled_one b (eqb b quote), doubled_longer text)

quoted_longer : (text : List ℕ) → length text ≤ length (quoted text)
quoted_longer text = omega (arith, length-append (flat_map doubled text) (quote ∷ []), doubled_longer text)

written_at : (text : List ℕ) (test : Bool) → (length text ≤ length (cond test (quoted text) text)) × (length (cond test (quoted text) text) ≤ length (quoted text))
written_at text true = (quoted_longer text, omega arith)
written_at text false = (omega arith, quoted_longer text)

-- a text is no longer than as it is written
pub text_longer : (text : List ℕ) → length text ≤ length (text_text text)
text_longer text = (written_at text (list_any is_special text)).0

-- a field has its type, and no more bytes than so many
record IsShortField (type : FieldType) (len : ℕ) (field : Field) : Type 0 where
  typed : HasType type field
  short : length (field_text field) ≤ len

number_short : (n : Option ℤ) (len : ℕ) → IfSome n (IsShortInt len) → IfSome (option_map (λ (z : ℤ). Number z) n) (IsShortField types.Number len)
number_short None len is = tt
number_short (Some z) len is = record { typed = is.0; short = is.1 }

int_longer : (n : Option ℤ) (one other : ℕ) → one ≤ other → IfSome n (IsShortInt one) → IfSome n (IsShortInt other)
int_longer None one other low is = tt
int_longer (Some z) one other low is = let short = is.1 in (is.0, omega arith)

field_short : (type : FieldType) (text : List ℕ) → HasNone ends_line text → IfSome (field_value type text) (IsShortField type (length (text_text text)))
field_short types.Number text none = number_short (int_value text) (length (text_text text)) (int_longer (int_value text) (length text) (length (text_text text)) (text_longer text) (int_short text))
field_short types.Bytes text none = record { typed = none; short = omega arith }

-- ---- the fields of a line

-- the values have no line end
abbrev pub AreUnended : List (List ℕ) → Type 0
AreUnended [] = Unit {0}
AreUnended (value ∷ values) = HasNone ends_line value × AreUnended values

-- how many bytes values have as they are written, with a comma each
abbrev pub width : List (List ℕ) → ℕ
width [] = 0
width (value ∷ values) = suc (length (text_text value) + width values)

not_special : (text : List ℕ) → has_quote text ≡ false → has_comma text ≡ false → HasNone ends_line text → list_any is_special text ≡ false
not_special [] quotes commas none = refl
not_special (b ∷ text) quotes commas none =
    let q = or_parts (eqb b quote) (has_quote text) quotes in
    let c = or_parts (eqb b comma) (has_comma text) commas in
    let e = or_parts (ends_line b) (list_any ends_line text) none in
    let ends = or_parts (eqb b carriage_return) (eqb b line_feed) e.0 in
    or_from (is_special b) (list_any is_special text)
    (or_from ((eqb b comma || eqb b quote) || eqb b carriage_return) (eqb b line_feed) (or_from (eqb b comma || eqb b quote) (eqb b carriage_return) (or_from (eqb b comma) (eqb b quote) c.0 q.0) ends.0) ends.1)
    (not_special text q.1 c.1 e.1)

append_parts : (xs ys : List ℕ) → HasNone ends_line (xs ++ ys) → HasNone ends_line xs × HasNone ends_line ys
append_parts xs ys none = or_parts (list_any ends_line xs) (list_any ends_line ys) (sym (list_any-append ends_line xs ys) ∙ none)

unquoted_none : (text : List ℕ) → HasNone ends_line (quoted text) → HasNone ends_line text
unquoted_none text none = doubled_none text (append_parts (flat_map doubled text) (quote ∷ []) (or_parts (ends_line quote) (list_any ends_line (flat_map doubled text ++ quote ∷ [])) none).1).0

-- a field's value has no line end where its text has none, and as it is written it is no longer than its text
field_is : (text value : List ℕ) → IsField text value → HasNone ends_line text → HasNone ends_line value × (length (text_text value) ≤ length text)
field_is text value (inl bare) none =
    subst (λ (v : List ℕ). HasNone ends_line v × (length (text_text v) ≤ length text)) (sym bare.2)
    (none, omega (arith, ap (λ (b : Bool). length (cond b (quoted text) text)) (not_special text bare.0 bare.1 none)))
field_is text value (inr is) none =
    subst (λ (t : List ℕ). HasNone ends_line value × (length (text_text value) ≤ length t)) (sym is)
    (unquoted_none value (subst (HasNone ends_line) is none), (written_at value (list_any is_special value)).1)

-- so it is with all fields of a line
pub fields_are : (line : List ℕ) (values : List (List ℕ)) → AreFields line values → HasNone ends_line line → AreUnended values × (width values ≤ suc (length line))
fields_are line [] are none = absurd are
fields_are line (value ∷ []) are none = let one = field_is line value are none in let short = one.1 in ((one.0, tt), omega arith)
fields_are line (value ∷ next ∷ values) (text, rest, whole, field, more) none =
    let parts = append_parts text (comma ∷ rest) (subst (HasNone ends_line) whole none) in
    let one = field_is text value field parts.0 in
    let others = fields_are rest (next ∷ values) more (or_parts (ends_line comma) (list_any ends_line rest) parts.1).1 in
    let short = one.1 in
    let low = others.1 in
    ((one.0, others.0), omega (arith, ap (λ (bytes : List ℕ). length bytes) whole, length-append text (comma ∷ rest)))

-- ---- payloads

-- fields of a shape
abbrev pub HasShape : Shape → List Field → Type 0
HasShape AnyText fields = Unit {0}
HasShape (Fields types) fields = AreTyped types.items fields

-- a payload of these types has no more bytes than so many, where all is in its form
abbrev IsShortPayload : List FieldType → ℕ → Result (Option (List Field)) LineFault → Type 0
IsShortPayload types len (Ok (Some fields)) = AreTyped types fields × (length (payload_text fields) ≤ len)
IsShortPayload types len (Ok None) = Unit {0}
IsShortPayload types len (Err fault) = Unit {0}

with_short : (type : FieldType) (types : List FieldType) (field : Option Field) (rest : Result (Option (List Field)) LineFault) (one others : ℕ) → IfSome field (IsShortField type one) → IsShortPayload types others rest
    → IsShortPayload (type ∷ types) (suc (one + others)) (with_field field rest)
with_short type types None (Err fault) one others is are = tt
with_short type types (Some field) (Err fault) one others is are = tt
with_short type types None (Ok fields) one others is are = tt
with_short type types (Some field) (Ok None) one others is are = tt
with_short type types (Some field) (Ok (Some fields)) one others is are =
    let first = is.short in
    let low = are.1 in
    ((is.typed, are.0), omega (arith, length-append (comma ∷ field_text field) (payload_text fields)))

typed_short : (types : List FieldType) (texts : List (List ℕ)) → AreUnended texts → IsShortPayload types (width texts) (typed_payload types texts)
typed_short [] [] none = (tt, omega arith)
typed_short [] (text ∷ texts) none = tt
typed_short (type ∷ types) [] none = tt
typed_short (type ∷ types) (text ∷ texts) none =
    with_short type types (field_value type text) (typed_payload types texts) (length (text_text text)) (width texts) (field_short type text none.0) (typed_short types texts none.1)

-- the payload has the shape, and no more bytes than so many
abbrev pub IsPayload : Shape → ℕ → Result (Option (List Field)) LineFault → Type 0
IsPayload shape len (Ok (Some fields)) = HasShape shape fields × (length (payload_text fields) ≤ len)
IsPayload shape len (Ok None) = Unit {0}
IsPayload shape len (Err fault) = Unit {0}

texts_length : (texts : List (List ℕ)) → length (payload_text (map (λ text. Bytes text) texts)) ≡ width texts
texts_length [] = refl
texts_length (text ∷ texts) = omega (arith, length-append (comma ∷ text_text text) (payload_text (map (λ text. Bytes text) texts)), texts_length texts)

few_texts : (few : Bool) (texts : List (List ℕ)) → IsPayload AnyText (width texts) (cond few (Ok (Some (map (λ text. Bytes text) texts))) (Err BadForm))
few_texts true texts = (tt, omega (arith, texts_length texts))
few_texts false texts = tt

of_types : (types : Vec FieldType Global) (len : ℕ) (read : Result (Option (List Field)) LineFault) → IsShortPayload types.items len read → IsPayload (Fields types) len read
of_types types len (Ok (Some fields)) is = is
of_types types len (Ok None) is = tt
of_types types len (Err fault) is = tt

pub payload_short : (shape : Shape) (texts : List (List ℕ)) → AreUnended texts → IsPayload shape (width texts) (payload_of shape texts)
payload_short AnyText texts none = few_texts (nat_le (length texts) 16) texts
payload_short (Fields types) texts none = of_types types (width texts) (typed_payload types.items texts) (typed_short types.items texts none)
