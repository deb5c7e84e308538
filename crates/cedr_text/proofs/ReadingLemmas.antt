-- What was read from a line is an event.
use Rattle.std.proofs.Common.{◌≡◌, ℕ, ◌-◌, ◌<◌, ◌≤◌, ◌↔◌, List, [], ◌∷◌, Bool, true, false, cond, ◌&&◌, ◌||◌, length, map, Option, None, Some, Result, Ok, Err, IfSome, refl, ap, sym, ◌∙◌, subst, arith}
use Rattle.std.specs.Prelude.{nat_lt, nat_le, nat_eq, codes}
use Rattle.std.specs.List.{starts_with}
use Rattle.std.specs.Str.{bytes_eq}
use Rattle.std.specs.Str.Parse.{digits_value}
use Rattle.std.proofs.lemmas.Bool.{and_parts, le-ltb, lt-ltb, ltb-true, leb-true}
use Rattle.cedr_base.specs.declared.time.TheConstants.{FOREVER}
use Rattle.cedr_base.specs.declared.field.Field.{Field}
use Rattle.cedr_base.specs.declared.row.Row.{Row}
use Rattle.cedr_base.specs.Rows.{IsRow}
use Rattle.cedr_base.specs.declared.field.Field.TheVariants.{Bytes}
use Rattle.cedr_base.specs.declared.field.FieldType.{FieldType}
use Rattle.cedr_text.specs.declared.event_line.EventLine.{EventLine}
use Rattle.cedr_text.specs.declared.event_line.Shape.{Shape}
use Rattle.cedr_text.specs.declared.event_line.Shape.TheVariants.{AnyText, Fields}
use Rattle.cedr_text.specs.declared.fault.LineFault.{LineFault}
use Rattle.cedr_text.specs.declared.fault.LineFault.TheVariants.{LineTooLong, BadForm, BadNumber, EmptyLife}
use Rattle.cedr_text.specs.declared.fault.ReadLineFault.{ReadLineFault}
use Rattle.cedr_text.specs.declared.fault.ReadLineFault.TheVariants as read_fault
use Rattle.cedr_text.specs.declared.lines.TheConstants.{LINE_LIMIT}
use Rattle.cedr_text.specs.Faults.{line_fault_number}
use Rattle.cedr_text.specs.Lines.{has_line_feed}
use Rattle.cedr_text.specs.Numbers.{is_numeral, whole_number, id_value, begin_value, time_value}
use Rattle.cedr_base.specs.Bytes.{comma}
use Rattle.cedr_text.specs.Parts.{parts_of}
use Rattle.cedr_text.specs.Quoting.{has_quote, line_fields, byte_order_mark}
use Rattle.cedr_text.proofs.QuotingLemmas.{bare_fields}
use Rattle.cedr_text.specs.Reading.{has_return, breaks_form, Reads, field_value, with_field, typed_payload, payload_of, version, version_by, version_of, inserted_by, revised_by, retracted, retraction, promised, guarantee, event_of, event_from, as_some, reading, IsEvent, SaysEvent}

-- a number is at most the last one
whole_at : (test : Bool) (last value : ℕ) → (test ≡ true → value ≤ last) → IfSome (cond test (Some value) None) (λ n. n ≤ last)
whole_at true last value low = low refl
whole_at false last value low = tt

whole_low : (last : ℕ) (text : List ℕ) → IfSome (whole_number last text) (λ n. n ≤ last)
whole_low last text =
    let value = digits_value 10 text in
    whole_at (is_numeral text && nat_le value last) last value (λ h. leb-true value last (and_parts (is_numeral text) (nat_le value last) h).1)

finite_at : (n : Option ℕ) → IfSome n (λ n. n ≤ FOREVER - 1) → IfSome n (λ n. n < FOREVER)
finite_at None low = tt
finite_at (Some n) low = omega arith

-- a begin is finite
pub begin_finite : (text : List ℕ) → IfSome (begin_value text) (λ n. n < FOREVER)
begin_finite text = finite_at (whole_number (FOREVER - 1) text) (whole_low (FOREVER - 1) text)

time_at : (test : Bool) (n : Option ℕ) → IfSome n (λ n. n < FOREVER) → IfSome (cond test (Some FOREVER) n) (λ n. n ≤ FOREVER)
time_at true n low = omega arith
time_at false None low = tt
time_at false (Some n) low = omega arith

-- no time is above `FOREVER`
pub time_low : (text : List ℕ) → IfSome (time_value text) (λ n. n ≤ FOREVER)
time_low text = time_at (bytes_eq text (codes "inf")) (begin_value text) (begin_finite text)

-- a fault of a line that isn't too long
abbrev pub IsShortFault : LineFault → Type 0
IsShortFault fault = (2 ≤ line_fault_number fault) × (line_fault_number fault ≤ 5)

bad_form : IsShortFault BadForm
bad_form = (omega arith, omega arith)

bad_number : IsShortFault BadNumber
bad_number = (omega arith, omega arith)

-- what was read is an event, if anything was
abbrev pub IsEventIfRead : Result EventLine LineFault → Type 0
IsEventIfRead (Ok line) = IsEvent line
IsEventIfRead (Err fault) = IsShortFault fault

-- whatever was read, a fault is one of a line that isn't too long
abbrev pub HasShortFault : {X : Type 0} → Result X LineFault → Type 0
HasShortFault (Ok x) = Unit {0}
HasShortFault (Err fault) = IsShortFault fault

with_fault : (field : Option Field) (read : Result (Option (List Field)) LineFault) → HasShortFault read → HasShortFault (with_field field read)
with_fault None (Ok fields) short = tt
with_fault (Some field) (Ok None) short = tt
with_fault (Some field) (Ok (Some fields)) short = tt
with_fault None (Err fault) short = short
with_fault (Some field) (Err fault) short = short

typed_fault : (types : List FieldType) (texts : List (List ℕ)) → HasShortFault (typed_payload types texts)
typed_fault [] [] = tt
typed_fault [] (text ∷ texts) = bad_form
typed_fault (type ∷ types) [] = bad_form
typed_fault (type ∷ types) (text ∷ texts) = with_fault (field_value type text) (typed_payload types texts) (typed_fault types texts)

few_fault : (few : Bool) (fields : Option (List Field)) → HasShortFault (cond few (Ok fields) (Err BadForm))
few_fault true fields = tt
few_fault false fields = bad_form

payload_fault : (shape : Shape) (texts : List (List ℕ)) → HasShortFault (payload_of shape texts)
payload_fault AnyText texts = few_fault (nat_le (length texts) 16) (Some (map (λ text. Bytes text) texts))
payload_fault (Fields types) texts = typed_fault types.items texts

-- what was read is a row with an id, if anything was
abbrev pub IsRowIfRead : Result (ℕ × Row) LineFault → Type 0
IsRowIfRead (Ok read) = IsRow read.1
IsRowIfRead (Err fault) = IsShortFault fault

row_of_payload : (id begin end : ℕ) (payload : Option (List Field)) → begin < FOREVER → end ≤ FOREVER → begin < end → IsRowIfRead (version id begin end payload)
row_of_payload id begin end None finite low alive = (omega arith, omega arith)
row_of_payload id begin end (Some payload) finite low alive = record { lives = alive; begins = finite; ends = low }

row_at : (test : Bool) (id begin end : ℕ) (payload : Option (List Field)) → nat_lt begin end ≡ test → begin < FOREVER → end ≤ FOREVER → IsRowIfRead (cond test (version id begin end payload) (Err EmptyLife))
row_at true id begin end payload is finite low = row_of_payload id begin end payload finite low (ltb-true begin end is)
row_at false id begin end payload is finite low = (omega arith, omega arith)

-- an insertion or a revision has a row
row_by : (id begin end : Option ℕ) (payload : Result (Option (List Field)) LineFault) → IfSome begin (λ n. n < FOREVER) → IfSome end (λ n. n ≤ FOREVER) → HasShortFault payload → IsRowIfRead (version_by id begin end payload)
row_by id begin end (Err fault) finite low short = short
row_by (Some id) (Some begin) (Some end) (Ok payload) finite low short = row_at (nat_lt begin end) id begin end payload refl finite low
row_by (Some id) (Some begin) None (Ok payload) finite low short = bad_number
row_by (Some id) None end (Ok payload) finite low short = bad_number
row_by None begin end (Ok payload) finite low short = bad_number

inserted_event : (read : Result (ℕ × Row) LineFault) → IsRowIfRead read → IsEventIfRead (inserted_by read)
inserted_event (Ok read) row = row
inserted_event (Err fault) short = short

revised_event : (read : Result (ℕ × Row) LineFault) → IsRowIfRead read → IsEventIfRead (revised_by read)
revised_event (Ok read) row = row
revised_event (Err fault) short = short

-- a retraction's new end is a time
pub retracted_event : (id end : Option ℕ) → IfSome end (λ n. n ≤ FOREVER) → IsEventIfRead (retracted id end)
retracted_event (Some id) (Some end) low = low
retracted_event (Some id) None low = bad_number
retracted_event None end low = bad_number

-- a guarantee is a time
pub promised_event : (time : Option ℕ) → IfSome time (λ n. n ≤ FOREVER) → IsEventIfRead (promised time)
promised_event (Some time) low = low
promised_event None low = bad_number

version_row : (shape : Shape) (fields : List (List ℕ)) → IsRowIfRead (version_of shape fields)
version_row shape [] = bad_form
version_row shape (id ∷ []) = bad_form
version_row shape (id ∷ begin ∷ []) = bad_form
version_row shape (id ∷ begin ∷ end ∷ texts) = row_by (id_value id) (begin_value begin) (time_value end) (payload_of shape texts) (begin_finite begin) (time_low end) (payload_fault shape texts)

retraction_event : (fields : List (List ℕ)) → IsEventIfRead (retraction fields)
retraction_event [] = bad_form
retraction_event (id ∷ []) = bad_form
retraction_event (id ∷ end ∷ []) = retracted_event (id_value id) (time_value end) (time_low end)
retraction_event (id ∷ end ∷ more ∷ fields) = bad_form

guarantee_event : (fields : List (List ℕ)) → IsEventIfRead (guarantee fields)
guarantee_event [] = bad_form
guarantee_event (time ∷ []) = promised_event (time_value time) (time_low time)
guarantee_event (time ∷ more ∷ fields) = bad_form

kind_event : (is : Bool) (read other : Result EventLine LineFault) → IsEventIfRead read → IsEventIfRead other → IsEventIfRead (cond is read other)
kind_event true read other event otherwise = event
kind_event false read other event otherwise = otherwise

-- fields that have the form of a line say an event
pub fields_event : (shape : Shape) (fields : List (List ℕ)) → IsEventIfRead (event_of shape fields)
fields_event shape [] = bad_form
fields_event shape (kind ∷ fields) =
    let plus = bytes_eq kind (codes "+") in
    let minus = bytes_eq kind (codes "-") in
    let equals = bytes_eq kind (codes "=") in
    let tilde = bytes_eq kind (codes "~") in
    let read = version_of shape fields in
    let row = version_row shape fields in
    let last = cond tilde (revised_by read) (Err BadForm) in
    kind_event plus (inserted_by read) (cond minus (retraction fields) (cond equals (guarantee fields) last)) (inserted_event read row)
    (kind_event minus (retraction fields) (cond equals (guarantee fields) last) (retraction_event fields)
    (kind_event equals (guarantee fields) last (guarantee_event fields)
    (kind_event tilde (revised_by read) (Err BadForm) (revised_event read row) bad_form)))

-- what a line that isn't too long says
abbrev SaysShort : Result (Option EventLine) LineFault → Type 0
SaysShort read = SaysEvent read × HasShortFault read

said : (read : Result EventLine LineFault) → IsEventIfRead read → SaysShort (as_some read)
said (Ok line) event = (event, tt)
said (Err fault) short = (short.1, short)

unless_broken : (broken : Bool) (read : Result (Option EventLine) LineFault) → SaysShort read → SaysShort (cond broken (Err BadForm) read)
unless_broken true read says = (omega arith, bad_form)
unless_broken false read says = says

from_event : (shape : Shape) (fields : Option (List (List ℕ))) → IsEventIfRead (event_from shape fields)
from_event shape None = bad_form
from_event shape (Some fields) = fields_event shape fields

-- what a line says that isn't too long and has some byte
abbrev short_reading : Shape → List ℕ → Result (Option EventLine) LineFault
short_reading shape line = cond (breaks_form line) (Err BadForm) (as_some (event_from shape (line_fields line)))

short_event : (shape : Shape) (line : List ℕ) → SaysShort (short_reading shape line)
short_event shape line =
    let read = event_from shape (line_fields line) in
    unless_broken (breaks_form line) (as_some read) (said read (from_event shape (line_fields line)))

-- a line that is too long says no event
pub unless_long : (long : Bool) (read : Result (Option EventLine) LineFault) → SaysEvent read → SaysEvent (cond long (Err LineTooLong) read)
unless_long true read says = omega arith
unless_long false read says = says

-- a line that was read is an event
pub reading_event : (shape : Shape) (line : List ℕ) → SaysEvent (reading shape line)
reading_event shape [] = tt
reading_event shape (b ∷ bs) = unless_long (nat_lt LINE_LIMIT (length (b ∷ bs))) (short_reading shape (b ∷ bs)) (short_event shape (b ∷ bs)).0

long_only : (long : Bool) (n : ℕ) (read : Result (Option EventLine) LineFault) → nat_lt LINE_LIMIT n ≡ long → HasShortFault read → cond long (Err LineTooLong) read ≡ Err LineTooLong → LINE_LIMIT < n
long_only true n read is short e = ltb-true LINE_LIMIT n is
long_only false n read is short e = let low : IsShortFault LineTooLong = subst HasShortFault e short in absurd (omega (arith, low.0))

-- a line is too long exactly where it has more bytes than it may
pub long_line : (shape : Shape) (line : List ℕ) → (reading shape line ≡ Err LineTooLong) ↔ (LINE_LIMIT < length line)
long_line shape [] = (λ e. cc, λ long. absurd (omega arith))
long_line shape (b ∷ bs) = (
  long_only (nat_lt LINE_LIMIT (length (b ∷ bs))) (length (b ∷ bs)) (short_reading shape (b ∷ bs)) refl (short_event shape (b ∷ bs)).1,
  λ long. ap (λ test. cond test (Err LineTooLong) (short_reading shape (b ∷ bs))) (lt-ltb LINE_LIMIT (length (b ∷ bs)) long),
)

-- ---- how the code reads

no_break : (a b c : Bool) → (a || (b || c)) ≡ false → (a ≡ false) × (b ≡ false) × (c ≡ false)
no_break true b c h = cc
no_break false true c h = cc
no_break false false c h = (refl, refl, h)

-- a line that isn't broken has neither a carriage return nor a line feed nor a byte order mark in front
pub unbroken : (line : List ℕ) → breaks_form line ≡ false → (has_return line ≡ false) × (has_line_feed line ≡ false) × (starts_with nat_eq line byte_order_mark ≡ false)
unbroken line whole = no_break (has_return line) (has_line_feed line) (starts_with nat_eq line byte_order_mark) whole

-- the event of a line of any length
abbrev pub line_reading : Shape → List ℕ → Result EventLine LineFault
line_reading shape line = cond (breaks_form line) (Err BadForm) (event_from shape (line_fields line))

some_unless : (broken : Bool) (read : Result EventLine LineFault) → cond broken (Err BadForm) (as_some read) ≡ as_some (cond broken (Err BadForm) read)
some_unless true read = refl
some_unless false read = refl

-- a line that isn't too long says what its fields say
pub reading_short : (shape : Shape) (line : List ℕ) → length line ≤ LINE_LIMIT → 0 < length line → reading shape line ≡ as_some (line_reading shape line)
reading_short shape [] short some = absurd (omega arith)
reading_short shape (b ∷ bs) short some =
    ap (λ test. cond test (Err LineTooLong) (short_reading shape (b ∷ bs))) (le-ltb LINE_LIMIT (length (b ∷ bs)) short)
    ∙ some_unless (breaks_form (b ∷ bs)) (event_from shape (line_fields (b ∷ bs)))

-- a line without quotes that isn't broken says what the parts between its commas say
pub plain_read : {X : Type 0} (read : List (List ℕ) → Result X LineFault) (from : Option (List (List ℕ)) → Result X LineFault) (line : List ℕ)
    → ((fields : List (List ℕ)) → from (Some fields) ≡ read fields) → (has_quote line ≡ false) × (breaks_form line ≡ false) → read (parts_of comma line) ≡ cond (breaks_form line) (Err BadForm) (from (line_fields line))
plain_read read from line same plain =
    sym (ap (λ broken. cond broken (Err BadForm) (from (line_fields line))) plain.1 ∙ ap from (bare_fields line plain.0) ∙ same (parts_of comma line))

-- the fields of a line that is neither too long nor broken say what it says
pub reading_whole : (shape : Shape) (line : List ℕ) → length line ≤ LINE_LIMIT → 0 < length line → breaks_form line ≡ false → reading shape line ≡ as_some (event_from shape (line_fields line))
reading_whole shape [] short some whole = absurd (omega arith)
reading_whole shape (b ∷ bs) short some whole =
    ap (λ test. cond test (Err LineTooLong) (short_reading shape (b ∷ bs))) (le-ltb LINE_LIMIT (length (b ∷ bs)) short)
    ∙ ap (λ test. cond test (Err BadForm) (as_some (event_from shape (line_fields (b ∷ bs))))) whole

-- nothing else is wrong with a line that has a fault
pub reads_fault : (fault : ReadLineFault) (read : Result EventLine LineFault) → Reads {X = EventLine} (Err fault) read → Reads {X = Option EventLine} (Err fault) (as_some read)
reads_fault (read_fault.Line fault) read is = ap as_some is
reads_fault read_fault.OutOfMemory read is = tt

-- what was read of the fields is the line's event
pub event_read : (shape : Shape) (line : List ℕ) (event : EventLine) → reading shape line ≡ Ok (Some event) → IsEvent event
event_read shape line event read = subst SaysEvent read (reading_event shape line)
