-- Lines and numbers that begin with some bytes.
use Rattle.std.specs.Prelude.{ℕ, zero, suc, ◌≡◌, ◌<◌, ◌≤◌, ◌/◌, ◌^◌, ◌==◌, ◌&&◌, Bool, true, false, not, List, [], ◌∷◌, ◌++◌, length, take, get_or, codes, decimal, nat_eq, Option, None, Some, if◌then◌else◌}
use Rattle.std.specs.List.{starts_with, flat_map}
use Rattle.cedr_base.specs.declared.time.TheConstants.{FOREVER}
use Rattle.cedr_base.specs.declared.field.Field.{Field}
use Rattle.cedr_base.specs.declared.field.FieldType.{FieldType}
use Rattle.cedr_base.specs.declared.field.FieldType.TheVariants as types
use Rattle.cedr_base.specs.Bytes.{comma}
use Rattle.cedr_text.specs.Lines.{has_line_feed}
use Rattle.cedr_text.specs.Texts.{quote, time_text, field_text, payload_text}
use Rattle.cedr_guard.specs.declared.state.EventState.{EventState}
use Rattle.cedr_guard.specs.States.{as_it_is}
use Rattle.cedr_guard.specs.Spelt.{state_row}
use Rattle.cedr_save.specs.Checkpoints.{HasType, AreTyped, row_line, event_line}
use Rattle.cedr_save.specs.Lines.{IsSavedEvent}

-- what stands before the guarantee in the line of a source with this name
abbrev pub source_front : List ℕ → List ℕ
source_front name = codes "source," ++ (name ++ comma ∷ [])

-- the text of a time that goes on from some bytes: `inf` where that does, and else the bytes themselves
abbrev pub completed : List ℕ → List ℕ
completed front = if starts_with nat_eq (codes "inf") front then codes "inf" else front

-- a number without so many of its last digits
abbrev pub DropsDigits : ℕ → ℕ → ℕ → Type 0
DropsDigits zero m n = m ≡ n
DropsDigits (suc k) m n = DropsDigits k (m / 10) n

-- the greatest number of at most so much whose digits begin with those of another
pub record IsHighest (number last high : ℕ) : Type 0 where
  pub low : high ≤ last
  pub count : ℕ
  pub shortens : DropsDigits count high number
  pub most : (m k : ℕ) → 1 ≤ number → m ≤ last → DropsDigits k m number → m ≤ high
  pub none : number ≡ 0 → high ≡ 0

-- a comma and the least field of a type: nought, or an empty text
abbrev pub default_field : FieldType → List ℕ
default_field types.Number = codes ",0"
default_field types.Bytes = codes ","

-- one such field of each type
abbrev pub default_fields : List FieldType → List ℕ
default_fields fields = flat_map default_field fields

-- a line that has no line feed still has none, where the text that was to go on has none
abbrev pub StaysWhole : List ℕ → List ℕ → List ℕ → Type 0
StaysWhole text before behind = has_line_feed text ≡ false → has_line_feed before ≡ false → has_line_feed behind ≡ false

-- a line is that of an event which a source of these types may have; it begins with some bytes, and the id is at least so much
pub record GoesOn (fields : List FieldType) (front line : List ℕ) (id : ℕ) : Type 0 where
  pub event : EventState
  pub saved : IsSavedEvent fields event
  pub above : id ≤ event.id
  pub is : line ≡ event_line event
  pub more : List ℕ
  pub begins : line ≡ front ++ more

-- where an event's line begins with some bytes, so does this line, and its id is at least that event's
abbrev pub CompletesEvent : List FieldType → List ℕ → List ℕ → Type 0
CompletesEvent fields front line = (e : EventState) (rest : List ℕ) → IsSavedEvent fields e → front ++ rest ≡ event_line e → GoesOn fields front line e.id

-- of the numbers up to some last one whose digits begin with some bytes this is the greatest, where there is one
abbrev pub FindsHighest : Option ℕ → List ℕ → ℕ → Type 0
FindsHighest (Some high) text last = (number : ℕ) (rest : List ℕ) → number ≤ last → text ++ rest ≡ decimal number → (number ≤ high) × ((more : List ℕ) × (decimal high ≡ text ++ more))
FindsHighest None text last = (number : ℕ) (rest : List ℕ) → number ≤ last → text ++ rest ≡ decimal number → ⊥

-- ---- the fields of a line that isn't whole

-- whether a quote is open behind some bytes, where one is open before them or not
abbrev pub is_quote_open : Bool → List ℕ → Bool
is_quote_open opened [] = opened
is_quote_open opened (b ∷ bs) = is_quote_open (if b == quote then not opened else opened) bs

-- no comma stands outside of quotes
abbrev pub is_uncut : Bool → List ℕ → Bool
is_uncut opened [] = true
is_uncut opened (b ∷ bs) = if (b == comma) && not opened then false else is_uncut (if b == quote then not opened else opened) bs

-- bytes are one field: no comma ends it, and each quote is closed
pub record IsOneField (bytes : List ℕ) : Type 0 where
  pub uncut : is_uncut false bytes ≡ true
  pub closed : is_quote_open false bytes ≡ false

-- the first field of a text ends at this place
pub record EndsField (text : List ℕ) (end : ℕ) : Type 0 where
  pub within : end < length text
  pub here : get_or text end 0 ≡ comma
  pub one : IsOneField (take end text)

-- a text is a field, a comma and the rest
pub record CutsText (text field rest : List ℕ) : Type 0 where
  pub is : text ≡ field ++ comma ∷ rest
  pub one : IsOneField field

-- ---- parts of an event's line that go on from some bytes

-- bytes that go on from a text and are of some kind were put behind a line
pub record GoesOnAs (IsKind : List ℕ → Type 0) (text before behind : List ℕ) : Type 0 where
  pub part : List ℕ
  pub kind : IsKind part
  pub more : List ℕ
  pub begins : part ≡ text ++ more
  pub is : behind ≡ before ++ part

-- so it was, where there are any
abbrev pub Completes : (List ℕ → Type 0) → List ℕ → List ℕ → List ℕ → Type 0
Completes IsKind text before behind = (part rest : List ℕ) → IsKind part → text ++ rest ≡ part → GoesOnAs IsKind text before behind

-- `BEGIN,END,FIELD..` of an event that a source of these types may have
pub record IsRowText (fields : List FieldType) (part : List ℕ) : Type 0 where
  pub event : EventState
  pub saved : IsSavedEvent fields event
  pub is : part ≡ row_line (as_it_is (state_row event))

-- `END,FIELD..` of an event as it is
abbrev pub end_text : EventState → List ℕ
end_text e = time_text e.end ++ payload_text (as_it_is (state_row e)).payload

-- that of an event that a source of these types may have, with this begin
pub record IsEndText (fields : List FieldType) (begin : ℕ) (part : List ℕ) : Type 0 where
  pub event : EventState
  pub saved : IsSavedEvent fields event
  pub begins : event.begin ≡ begin
  pub is : part ≡ end_text event

-- fields of these types, each behind a comma
pub record IsFieldsText (fields : List FieldType) (part : List ℕ) : Type 0 where
  pub payload : List Field
  pub typed : AreTyped fields payload
  pub is : part ≡ payload_text payload

-- where the digits of an id begin with a text, so does an event's line with at least that id
abbrev pub CompletesId : List FieldType → List ℕ → List ℕ → Type 0
CompletesId fields text line = (id : ℕ) (rest : List ℕ) → id < 2 ^ 64 → text ++ rest ≡ decimal id → GoesOn fields text line id

-- where the digits of a begin do, so does a row
abbrev pub CompletesBegin : List FieldType → List ℕ → List ℕ → List ℕ → Type 0
CompletesBegin fields text before behind = (time : ℕ) (rest : List ℕ) → time < FOREVER → text ++ rest ≡ decimal time → GoesOnAs (IsRowText fields) text before behind

-- and where an end does that isn't before a begin
abbrev pub CompletesEnd : List FieldType → ℕ → List ℕ → List ℕ → List ℕ → Type 0
CompletesEnd fields begin text before behind = (time : ℕ) (rest : List ℕ) → begin ≤ time → time ≤ FOREVER → text ++ rest ≡ time_text time → GoesOnAs (IsEndText fields begin) text before behind

-- where a field of a type begins with a text, one is the text and this rest
abbrev pub EndsWell : FieldType → List ℕ → List ℕ → Type 0
EndsWell type text rest = (field : Field) (more : List ℕ) → HasType type field → text ++ more ≡ field_text field → (other : Field) × HasType type other × (field_text other ≡ text ++ rest)
