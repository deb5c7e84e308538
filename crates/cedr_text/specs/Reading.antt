-- The grammar of an event line.
use Rattle.std.specs.Prelude.{ℕ, ◌≡◌, ◌==◌, ◌≤◌, ◌||◌, Bool, List, [], ◌∷◌, ◌++◌, length, map, nat_le, nat_lt, nat_eq, codes, if◌then◌else◌, option_map, Option, None, Some, Result, Ok, Err}
use Rattle.std.specs.List.{list_any, starts_with}
use Rattle.std.specs.Str.{bytes_eq}
use Rattle.cedr_base.specs.declared.time.TheConstants.{FOREVER}
use Rattle.cedr_base.specs.declared.row.Row.{Row}
use Rattle.cedr_base.specs.Rows.{IsRow}
use Rattle.cedr_base.specs.declared.field.Field.{Field}
use Rattle.cedr_base.specs.declared.field.Field.TheVariants.{Number, Bytes}
use Rattle.cedr_base.specs.declared.field.FieldType.{FieldType}
use Rattle.cedr_base.specs.declared.field.FieldType.TheVariants as types
use Rattle.cedr_text.specs.declared.event_line.EventLine.{EventLine}
use Rattle.cedr_text.specs.declared.event_line.EventLine.TheVariants.{Insert, Retract, Revise, Promise}
use Rattle.cedr_text.specs.declared.event_line.Shape.{Shape}
use Rattle.cedr_text.specs.declared.event_line.Shape.TheVariants.{AnyText, Fields}
use Rattle.cedr_text.specs.declared.fault.LineFault.{LineFault}
use Rattle.cedr_text.specs.declared.fault.LineFault.TheVariants.{LineTooLong, BadForm, BadNumber, EmptyLife, BadField}
use Rattle.cedr_text.specs.declared.fault.ReadLineFault.{ReadLineFault}
use Rattle.cedr_text.specs.declared.fault.ReadLineFault.TheVariants as read_fault
use Rattle.cedr_text.specs.declared.lines.TheConstants.{LINE_LIMIT}
use Rattle.cedr_text.specs.Faults.{line_fault_number}
use Rattle.cedr_text.specs.Lines.{has_line_feed}
use Rattle.cedr_text.specs.Quoting.{line_fields, byte_order_mark}
use Rattle.cedr_text.specs.Texts.{carriage_return}
use Rattle.cedr_text.specs.Numbers.{id_value, begin_value, time_value, int_value}

-- some byte is a carriage return
abbrev pub has_return : List ℕ → Bool
has_return bytes = list_any (λ b. b == carriage_return) bytes

-- a line break stands inside, or a byte order mark in front
abbrev pub breaks_form : List ℕ → Bool
breaks_form line = has_return line || (has_line_feed line || starts_with nat_eq line byte_order_mark)

-- the value of a field that has to be of this type
abbrev pub field_value : FieldType → List ℕ → Option Field
field_value types.Number text = option_map (λ n. Number n) (int_value text)
field_value types.Bytes text = Some (Bytes text)

-- one field more in front, where it and all after it are in their form
abbrev pub with_field : Option Field → Result (Option (List Field)) LineFault → Result (Option (List Field)) LineFault
with_field field (Err fault) = Err fault
with_field (Some field) (Ok (Some fields)) = Ok (Some (field ∷ fields))
with_field field (Ok fields) = Ok None

-- one field for each type, or nothing where one isn't in its form
abbrev pub typed_payload : List FieldType → List (List ℕ) → Result (Option (List Field)) LineFault
typed_payload [] [] = Ok (Some [])
typed_payload [] (text ∷ texts) = Err BadForm
typed_payload (type ∷ types) [] = Err BadForm
typed_payload (type ∷ types) (text ∷ texts) = with_field (field_value type text) (typed_payload types texts)

-- the fields of a payload: as many as the shape says, or nothing where one isn't in its form
abbrev pub payload_of : Shape → List (List ℕ) → Result (Option (List Field)) LineFault
payload_of AnyText texts = if nat_le (length texts) 16 then Ok (Some (map (λ text. Bytes text) texts)) else Err BadForm
payload_of (Fields types) texts = typed_payload types.items texts

-- after `+` or `~`: an id, and a row by its begin, its end and its payload
abbrev pub version : ℕ → ℕ → ℕ → Option (List Field) → Result (ℕ × Row) LineFault
version id begin end None = Err BadField
version id begin end (Some payload) = Ok (id, record { end = end; begin = begin; payload = payload })

-- an insertion or a revision by its id, times and payload. Which fault counts: one of the payload as a whole, then a
-- number that isn't in form, then an empty interval, then a field that isn't in form
abbrev pub version_by : Option ℕ → Option ℕ → Option ℕ → Result (Option (List Field)) LineFault → Result (ℕ × Row) LineFault
version_by id begin end (Err fault) = Err fault
version_by (Some id) (Some begin) (Some end) (Ok payload) = if nat_lt begin end then version id begin end payload else Err EmptyLife
version_by id begin end (Ok payload) = Err BadNumber

-- the id and the row that the fields after `+` or `~` say: three of them, and then those of the payload
abbrev pub version_of : Shape → List (List ℕ) → Result (ℕ × Row) LineFault
version_of shape (id ∷ begin ∷ end ∷ texts) = version_by (id_value id) (begin_value begin) (time_value end) (payload_of shape texts)
version_of shape fields = Err BadForm

-- the id and the row of fields that the quoting rule gives, or none where a line breaks it
abbrev pub version_from : Shape → Option (List (List ℕ)) → Result (ℕ × Row) LineFault
version_from shape None = Err BadForm
version_from shape (Some fields) = version_of shape fields

-- the id and the row that a line says which begins with the id
abbrev pub version_reading : Shape → List ℕ → Result (ℕ × Row) LineFault
version_reading shape line = if breaks_form line then Err BadForm else version_from shape (line_fields line)

-- the insertion of an id and a row that were read
abbrev pub inserted_by : Result (ℕ × Row) LineFault → Result EventLine LineFault
inserted_by (Ok read) = Ok (Insert read.0 read.1)
inserted_by (Err fault) = Err fault

-- the revision of an id and a row that were read
abbrev pub revised_by : Result (ℕ × Row) LineFault → Result EventLine LineFault
revised_by (Ok read) = Ok (Revise read.0 read.1)
revised_by (Err fault) = Err fault

-- after `-`: an id and the new end
abbrev pub retracted : Option ℕ → Option ℕ → Result EventLine LineFault
retracted (Some id) (Some end) = Ok (Retract id end)
retracted id end = Err BadNumber

-- the retraction that the fields after `-` say: exactly two of them
abbrev pub retraction : List (List ℕ) → Result EventLine LineFault
retraction (id ∷ end ∷ []) = retracted (id_value id) (time_value end)
retraction fields = Err BadForm

-- the retraction of an id and a new end that were read
abbrev pub retracted_by : Result (ℕ × ℕ) LineFault → Result EventLine LineFault
retracted_by (Ok read) = Ok (Retract read.0 read.1)
retracted_by (Err fault) = Err fault

-- after `=`: a time
abbrev pub promised : Option ℕ → Result EventLine LineFault
promised (Some time) = Ok (Promise time)
promised None = Err BadNumber

-- the guarantee that the fields after `=` say: exactly one
abbrev pub guarantee : List (List ℕ) → Result EventLine LineFault
guarantee (time ∷ []) = promised (time_value time)
guarantee fields = Err BadForm

-- the guarantee of a time that was read
abbrev pub promised_by : Result ℕ LineFault → Result EventLine LineFault
promised_by (Ok time) = Ok (Promise time)
promised_by (Err fault) = Err fault

-- the first field says which kind of line it is
abbrev pub event_of : Shape → List (List ℕ) → Result EventLine LineFault
event_of shape [] = Err BadForm
event_of shape (kind ∷ fields) =
    if bytes_eq kind (codes "+") then inserted_by (version_of shape fields)
    else if bytes_eq kind (codes "-") then retraction fields
    else if bytes_eq kind (codes "=") then guarantee fields
    else if bytes_eq kind (codes "~") then revised_by (version_of shape fields)
    else Err BadForm

-- what a line says that was read as an event, or its fault
abbrev pub as_some : Result EventLine LineFault → Result (Option EventLine) LineFault
as_some (Ok event) = Ok (Some event)
as_some (Err fault) = Err fault

-- fields that the quoting rule gives, or none where the line breaks it
abbrev pub event_from : Shape → Option (List (List ℕ)) → Result EventLine LineFault
event_from shape None = Err BadForm
event_from shape (Some fields) = event_of shape fields

-- what a line says, or its least fault; an empty line says nothing. In a file the line feed and one carriage
-- return before it are no part of the line here
abbrev pub reading : Shape → List ℕ → Result (Option EventLine) LineFault
reading shape [] = Ok None
reading shape (b ∷ bs) =
    if nat_lt LINE_LIMIT (length (b ∷ bs)) then Err LineTooLong
    else if breaks_form (b ∷ bs) then Err BadForm
    else as_some (event_from shape (line_fields (b ∷ bs)))

-- what the code answers is the reading, unless memory ran out
abbrev pub Reads : {X : Type 0} → Result X ReadLineFault → Result X LineFault → Type 0
Reads (Ok x) read = read ≡ Ok x
Reads (Err (read_fault.Line fault)) read = read ≡ Err fault
Reads (Err read_fault.OutOfMemory) read = Unit {0}

-- a payload that has this front, where all after it is in its form
abbrev pub onto : Option (List Field) → Result (Option (List Field)) LineFault → Result (Option (List Field)) LineFault
onto front (Err fault) = Err fault
onto (Some front) (Ok (Some fields)) = Ok (Some (front ++ fields))
onto front (Ok fields) = Ok None

-- a payload with one field more at its end, where both are in their form
abbrev pub pushed : Option (List Field) → Option Field → Option (List Field)
pushed (Some fields) (Some field) = Some (fields ++ field ∷ [])
pushed fields field = None

-- ---- what is read is in range

-- an insertion and a revision have a row, and no time is above FOREVER
abbrev pub IsEvent : EventLine → Type 0
IsEvent (Insert id row) = IsRow row
IsEvent (Retract id end) = end ≤ FOREVER
IsEvent (Revise id row) = IsRow row
IsEvent (Promise time) = time ≤ FOREVER

-- what a line says is an event, if it says anything. A fault that a line has by itself is one of the first five
abbrev pub SaysEvent : Result (Option EventLine) LineFault → Type 0
SaysEvent (Ok None) = Unit {0}
SaysEvent (Ok (Some line)) = IsEvent line
SaysEvent (Err fault) = line_fault_number fault ≤ 5
