-- Times, fields and rows as text. Each row is one line.
use Rattle.std.specs.Prelude.{ℕ, ◌==◌, ◌||◌, Bool, List, [], ◌∷◌, ◌++◌, codes, decimal, if◌then◌else◌}
use Rattle.std.specs.Fmt.{signed_decimal}
use Rattle.std.specs.List.{list_any, flat_map}
use Rattle.cedr_base.specs.declared.time.TheConstants.{FOREVER}
use Rattle.cedr_base.specs.declared.row.Row.{Row}
use Rattle.cedr_base.specs.declared.change.Change.{Change}
use Rattle.cedr_base.specs.declared.change.Change.TheVariants.{Add, Cut}
use Rattle.cedr_base.specs.declared.field.Field.{Field}
use Rattle.cedr_base.specs.declared.field.Field.TheVariants.{Number, Bytes}
pub use Rattle.cedr_base.specs.Bytes.{comma, line_feed}

-- the byte of a double quote
abbrev pub quote : ℕ
quote = 34

-- the byte of a carriage return
abbrev pub carriage_return : ℕ
carriage_return = 13

-- decimal digits without leading zeros, or `inf`
abbrev pub time_text : ℕ → List ℕ
time_text t = if t == FOREVER then codes "inf" else decimal t

-- a byte that a bare field can't have
abbrev pub is_special : ℕ → Bool
is_special b = (b == comma) || (b == quote) || (b == carriage_return) || (b == line_feed)

-- a quote inside a quoted field stands twice
abbrev pub doubled : ℕ → List ℕ
doubled b = if b == quote then quote ∷ quote ∷ [] else b ∷ []

-- a text between quotes, with each quote inside it twice
abbrev pub quoted : List ℕ → List ℕ
quoted text = quote ∷ (flat_map doubled text ++ quote ∷ [])

-- a text is quoted exactly where it has a special byte
abbrev pub text_text : List ℕ → List ℕ
text_text text = if list_any is_special text then quoted text else text

-- a number in decimal digits, with a `-` where it is below zero, or a text, quoted where it has to be
abbrev pub field_text : Field → List ℕ
field_text (Number n) = signed_decimal n
field_text (Bytes text) = text_text text

-- each field of a payload stands after a comma
abbrev pub payload_text : List Field → List ℕ
payload_text fields = flat_map (λ field. comma ∷ field_text field) fields

-- `BEGIN,END,FIELD..` and a line feed
abbrev pub row_text : Row → List ℕ
row_text row = time_text row.begin ++ comma ∷ (time_text row.end ++ (payload_text row.payload ++ line_feed ∷ []))

-- rows one after the other
abbrev pub rows_text : List Row → List ℕ
rows_text rows = flat_map row_text rows

-- a change and its row: `+,` or `-,NEWEND,` before the row as it was
abbrev pub change_text : Change → List ℕ
change_text (Add row) = codes "+," ++ row_text row
change_text (Cut row end) = codes "-," ++ (time_text end ++ comma ∷ row_text row)

-- a change that a port left out: `NODE,PORT,CAUSE,HIGH,` and the change
abbrev pub forgotten_text : List ℕ → ℕ → List ℕ → ℕ → Change → List ℕ
forgotten_text name port cause high change = name ++ comma ∷ (decimal port ++ comma ∷ (cause ++ comma ∷ (time_text high ++ comma ∷ change_text change)))
