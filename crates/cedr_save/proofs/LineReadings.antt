-- What a line says: its versions have the types of the line's shape, and written again it is no longer than the line.
use Rattle.std.proofs.Common.{◌≡◌, ℕ, suc, ◌+◌, ◌^◌, ◌<◌, ◌≤◌, List, [], ◌∷◌, ◌++◌, length, Bool, true, false, cond, Option, None, Some, IfSome, Result, Ok, Err, refl, subst, arith}
use Rattle.std.specs.Prelude.{nat_lt, codes, decimal}
use Rattle.std.specs.Str.{bytes_eq}
use Rattle.std.proofs.lemmas.List.{length-append}
use Rattle.cedr_base.specs.declared.row.Row.{Row}
use Rattle.cedr_base.specs.declared.field.Field.{Field}
use Rattle.cedr_base.specs.declared.field.FieldType.{FieldType}
use Rattle.cedr_base.specs.Bytes.{comma}
use Rattle.cedr_text.specs.declared.event_line.EventLine.{EventLine}
use Rattle.cedr_text.specs.declared.event_line.EventLine.TheVariants.{Insert, Retract, Revise, Promise}
use Rattle.cedr_text.specs.declared.event_line.Shape.{Shape}
use Rattle.cedr_text.specs.declared.event_line.Shape.TheVariants.{AnyText, Fields}
use Rattle.cedr_text.specs.declared.fault.LineFault.{LineFault}
use Rattle.cedr_text.specs.declared.fault.LineFault.TheVariants.{LineTooLong, BadForm, EmptyLife}
use Rattle.cedr_text.specs.declared.lines.TheConstants.{LINE_LIMIT}
use Rattle.cedr_text.specs.Numbers.{id_value, begin_value, time_value}
use Rattle.cedr_text.specs.Quoting.{line_fields}
use Rattle.cedr_text.specs.Reading.{breaks_form, payload_of, version, version_by, version_of, inserted_by, revised_by, retracted, retraction, promised, guarantee, event_of, event_from, as_some, reading}
use Rattle.cedr_text.specs.Shapes.{ShapeHasTypes}
use Rattle.cedr_text.specs.Texts.{time_text, payload_text}
use Rattle.cedr_text.proofs.ReadingLemmas.{unbroken}
use Rattle.cedr_text.proofs.RuleLemmas.{cut_are_fields}
use Rattle.cedr_save.specs.Checkpoints.{AreTyped, row_line}
use Rattle.cedr_save.proofs.TextLemmas.{both_ends}
use Rattle.cedr_save.proofs.ValueLemmas.{IsShortId, IsShortTime, id_short, begin_short, time_short, text_longer, AreUnended, width, fields_are, HasShape, IsPayload, payload_short}

-- ---- what a line says

-- an insertion has an id of 64 bits, and the fields of a version have these types
abbrev pub IsTypedLine : List FieldType → EventLine → Type 0
IsTypedLine types (Insert id row) = (id < 2 ^ 64) × AreTyped types row.payload
IsTypedLine types (Retract id end) = Unit {0}
IsTypedLine types (Revise id row) = AreTyped types row.payload
IsTypedLine types (Promise time) = Unit {0}

-- how many bytes an id and a row have as they are written, with a line feed
abbrev pub row_size : ℕ → Row → ℕ
row_size id row = suc (length (decimal id ++ comma ∷ row_line row))

-- how many bytes of a line the events' lines can need: those of a version's row, or of a retraction's end
abbrev pub line_size : EventLine → ℕ
line_size (Insert id row) = row_size id row
line_size (Retract id end) = length (time_text end)
line_size (Revise id row) = row_size id row
line_size (Promise time) = 0

-- this holds of what was read, if anything was
abbrev pub IfSays : (EventLine → Type 0) → Result (Option EventLine) LineFault → Type 0
IfSays Holds (Ok (Some line)) = Holds line
IfSays Holds (Ok None) = Unit {0}
IfSays Holds (Err fault) = Unit {0}

-- ---- versions

pub row_length : (id : ℕ) (row : Row) → row_size id row ≡ 3 + (length (decimal id) + (length (time_text row.begin) + (length (time_text row.end) + length (payload_text row.payload))))
row_length id row = omega (
  arith,
  length-append (decimal id) (comma ∷ row_line row),
  length-append (time_text row.begin) (comma ∷ (time_text row.end ++ payload_text row.payload)),
  length-append (time_text row.end) (payload_text row.payload),
)

-- an id and a row of a shape, of at most so many bytes, if they were read
abbrev IsVersionRead : Shape → ℕ → Result (ℕ × Row) LineFault → Type 0
IsVersionRead shape len (Ok read) = (read.0 < 2 ^ 64) × HasShape shape read.1.payload × (row_size read.0 read.1 ≤ len)
IsVersionRead shape len (Err fault) = Unit {0}

version_at : (shape : Shape) (test : Bool) (id begin end a b c d : ℕ) (payload : Option (List Field)) → IsShortId a id → IsShortTime b begin → IsShortTime c end → IsPayload shape d (Ok payload)
    → IsVersionRead shape (3 + (a + (b + (c + d)))) (cond test (version id begin end payload) (Err EmptyLife))
version_at shape true id begin end a b c d None one two three four = tt
version_at shape true id begin end a b c d (Some payload) one two three four =
    let short = one.1 in
    let low = four.1 in
    (one.0, four.0, omega (arith, row_length id (record { end = end; begin = begin; payload = payload })))
version_at shape false id begin end a b c d payload one two three four = tt

version_by_read : (shape : Shape) (id begin end : Option ℕ) (payload : Result (Option (List Field)) LineFault) (a b c d : ℕ) → IfSome id (IsShortId a) → IfSome begin (IsShortTime b) → IfSome end (IsShortTime c) → IsPayload shape d payload
    → IsVersionRead shape (3 + (a + (b + (c + d)))) (version_by id begin end payload)
version_by_read shape id begin end (Err fault) a b c d one two three four = tt
version_by_read shape (Some id) (Some begin) (Some end) (Ok payload) a b c d one two three four = version_at shape (nat_lt begin end) id begin end a b c d payload one two three four
version_by_read shape (Some id) (Some begin) None (Ok payload) a b c d one two three four = tt
version_by_read shape (Some id) None end (Ok payload) a b c d one two three four = tt
version_by_read shape None begin end (Ok payload) a b c d one two three four = tt

version_within : (shape : Shape) (read : Result (ℕ × Row) LineFault) (low high : ℕ) → low ≤ high → IsVersionRead shape low read → IsVersionRead shape high read
version_within shape (Ok read) low high within is = let short = is.2 in (is.0, is.1, omega arith)
version_within shape (Err fault) low high within is = tt

version_read : (shape : Shape) (fields : List (List ℕ)) (len : ℕ) → AreUnended fields → width fields ≤ len → IsVersionRead shape len (version_of shape fields)
version_read shape [] len none short = tt
version_read shape (id ∷ []) len none short = tt
version_read shape (id ∷ begin ∷ []) len none short = tt
version_read shape (id ∷ begin ∷ end ∷ texts) len none short =
    version_within shape (version_of shape (id ∷ begin ∷ end ∷ texts)) (3 + (length id + (length begin + (length end + width texts)))) len (omega (arith, text_longer id, text_longer begin, text_longer end))
    (version_by_read shape (id_value id) (begin_value begin) (time_value end) (payload_of shape texts) (length id) (length begin) (length end) (width texts) (id_short id) (begin_short begin) (time_short end) (payload_short shape texts none.1.1.1))

-- ---- lines

-- a line whose versions have a shape's fields
abbrev IsShapedLine : Shape → EventLine → Type 0
IsShapedLine shape (Insert id row) = (id < 2 ^ 64) × HasShape shape row.payload
IsShapedLine shape (Retract id end) = Unit {0}
IsShapedLine shape (Revise id row) = HasShape shape row.payload
IsShapedLine shape (Promise time) = Unit {0}

-- such a line of at most so many bytes, if one was read
abbrev IsLineRead : Shape → ℕ → Result EventLine LineFault → Type 0
IsLineRead shape len (Ok line) = IsShapedLine shape line × (line_size line ≤ len)
IsLineRead shape len (Err fault) = Unit {0}

inserted_read : (shape : Shape) (len : ℕ) (read : Result (ℕ × Row) LineFault) → IsVersionRead shape len read → IsLineRead shape len (inserted_by read)
inserted_read shape len (Ok read) is = ((is.0, is.1), is.2)
inserted_read shape len (Err fault) is = tt

revised_read : (shape : Shape) (len : ℕ) (read : Result (ℕ × Row) LineFault) → IsVersionRead shape len read → IsLineRead shape len (revised_by read)
revised_read shape len (Ok read) is = (is.1, is.2)
revised_read shape len (Err fault) is = tt

retracted_read : (shape : Shape) (low high : ℕ) (id end : Option ℕ) → low ≤ high → IfSome end (IsShortTime low) → IsLineRead shape high (retracted id end)
retracted_read shape low high (Some id) (Some end) within short = (tt, omega arith)
retracted_read shape low high (Some id) None within short = tt
retracted_read shape low high None end within short = tt

retraction_read : (shape : Shape) (fields : List (List ℕ)) (len : ℕ) → width fields ≤ len → IsLineRead shape len (retraction fields)
retraction_read shape [] len short = tt
retraction_read shape (id ∷ []) len short = tt
retraction_read shape (id ∷ end ∷ []) len short = retracted_read shape (length end) len (id_value id) (time_value end) (omega (arith, text_longer end)) (time_short end)
retraction_read shape (id ∷ end ∷ more ∷ fields) len short = tt

promised_read : (shape : Shape) (len : ℕ) (time : Option ℕ) → IsLineRead shape len (promised time)
promised_read shape len (Some time) = (tt, omega arith)
promised_read shape len None = tt

guarantee_read : (shape : Shape) (fields : List (List ℕ)) (len : ℕ) → IsLineRead shape len (guarantee fields)
guarantee_read shape [] len = tt
guarantee_read shape (time ∷ []) len = promised_read shape len (time_value time)
guarantee_read shape (time ∷ more ∷ fields) len = tt

kind_read : (shape : Shape) (len : ℕ) (is : Bool) (read other : Result EventLine LineFault) → IsLineRead shape len read → IsLineRead shape len other → IsLineRead shape len (cond is read other)
kind_read shape len true read other one more = one
kind_read shape len false read other one more = more

fields_read : (shape : Shape) (fields : List (List ℕ)) (len : ℕ) → AreUnended fields → width fields ≤ suc len → IsLineRead shape len (event_of shape fields)
fields_read shape [] len none short = tt
fields_read shape (kind ∷ fields) len none short =
    let plus = bytes_eq kind (codes "+") in
    let minus = bytes_eq kind (codes "-") in
    let equals = bytes_eq kind (codes "=") in
    let tilde = bytes_eq kind (codes "~") in
    let read = version_of shape fields in
    let row = version_read shape fields len none.1 (omega arith) in
    let last = cond tilde (revised_by read) (Err BadForm) in
    kind_read shape len plus (inserted_by read) (cond minus (retraction fields) (cond equals (guarantee fields) last)) (inserted_read shape len read row)
    (kind_read shape len minus (retraction fields) (cond equals (guarantee fields) last) (retraction_read shape fields len (omega arith))
    (kind_read shape len equals (guarantee fields) last (guarantee_read shape fields len)
    (kind_read shape len tilde (revised_by read) (Err BadForm) (revised_read shape len read row) tt)))

-- such a line, if the bytes say one
abbrev IsRead : Shape → ℕ → Result (Option EventLine) LineFault → Type 0
IsRead shape len read = IfSays (λ line. IsShapedLine shape line × (line_size line ≤ len)) read

some_read : (shape : Shape) (len : ℕ) (read : Result EventLine LineFault) → IsLineRead shape len read → IsRead shape len (as_some read)
some_read shape len (Ok line) is = is
some_read shape len (Err fault) is = tt

from_read : (shape : Shape) (bytes : List ℕ) (fields : Option (List (List ℕ))) → breaks_form bytes ≡ false → line_fields bytes ≡ fields → IsLineRead shape (length bytes) (event_from shape fields)
from_read shape bytes None whole is = tt
from_read shape bytes (Some fields) whole is =
    let ends = unbroken bytes whole in
    let are = fields_are bytes fields (cut_are_fields bytes fields is) (both_ends bytes ends.0 ends.1) in
    fields_read shape fields (length bytes) are.0 are.1

bytes_at : (shape : Shape) (bytes : List ℕ) (long broken : Bool) → breaks_form bytes ≡ broken
    → IsRead shape (length bytes) (cond long (Err LineTooLong) (cond broken (Err BadForm) (as_some (event_from shape (line_fields bytes)))))
bytes_at shape bytes true broken is = tt
bytes_at shape bytes false true is = tt
bytes_at shape bytes false false is = some_read shape (length bytes) (event_from shape (line_fields bytes)) (from_read shape bytes (line_fields bytes) is refl)

bytes_read : (shape : Shape) (bytes : List ℕ) → IsRead shape (length bytes) (reading shape bytes)
bytes_read shape [] = tt
bytes_read shape (b ∷ bs) = bytes_at shape (b ∷ bs) (nat_lt LINE_LIMIT (length (b ∷ bs))) (breaks_form (b ∷ bs)) refl

-- ---- the readings of lines

typed_fields : (shape : Shape) (types : List FieldType) (fields : List Field) → ShapeHasTypes shape types → HasShape shape fields → AreTyped types fields
typed_fields AnyText types fields has are = absurd has
typed_fields (Fields items) types fields has are = subst (λ (ts : List FieldType). AreTyped ts fields) has are

typed_line : (shape : Shape) (types : List FieldType) (line : EventLine) → ShapeHasTypes shape types → IsShapedLine shape line → IsTypedLine types line
typed_line shape types (Insert id row) has is = (is.0, typed_fields shape types row.payload has is.1)
typed_line shape types (Retract id end) has is = tt
typed_line shape types (Revise id row) has is = typed_fields shape types row.payload has is
typed_line shape types (Promise time) has is = tt

typed_read : (shape : Shape) (types : List FieldType) (len : ℕ) (read : Result (Option EventLine) LineFault) → ShapeHasTypes shape types → IsRead shape len read → IfSays (IsTypedLine types) read
typed_read shape types len (Ok (Some line)) has is = typed_line shape types line has is.0
typed_read shape types len (Ok None) has is = tt
typed_read shape types len (Err fault) has is = tt

-- what a line says has the types of its shape
pub reading_typed : (shape : Shape) (types : List FieldType) (bytes : List ℕ) → ShapeHasTypes shape types → IfSays (IsTypedLine types) (reading shape bytes)
reading_typed shape types bytes has = typed_read shape types (length bytes) (reading shape bytes) has (bytes_read shape bytes)

short_read : (shape : Shape) (len : ℕ) (read : Result (Option EventLine) LineFault) → IsRead shape len read → IfSays (λ line. line_size line ≤ len) read
short_read shape len (Ok (Some line)) is = is.1
short_read shape len (Ok None) is = tt
short_read shape len (Err fault) is = tt

-- and is no longer than the line
pub reading_short : (shape : Shape) (bytes : List ℕ) → IfSays (λ line. line_size line ≤ length bytes) (reading shape bytes)
reading_short shape bytes = short_read shape (length bytes) (reading shape bytes) (bytes_read shape bytes)
