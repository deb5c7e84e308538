-- What a line of a checkpoint says of an event or of a source, and which line may follow others.
use Rattle.std.specs.Prelude.{ℕ, ◌≡◌, ◌<◌, ◌≤◌, ◌^◌, true, false, List, [], ◌∷◌, ◌++◌, map, Option, None, Some, IfSome}
use Rattle.cedr_base.specs.declared.time.TheConstants.{FOREVER}
use Rattle.cedr_base.specs.declared.row.Row.{Row}
use Rattle.cedr_base.specs.declared.field.Field.{Field}
use Rattle.cedr_base.specs.declared.field.Field.TheVariants.{Number, Bytes}
use Rattle.cedr_base.specs.declared.field.FieldType.{FieldType}
use Rattle.cedr_base.specs.declared.field.FieldType.TheVariants as types
use Rattle.cedr_text.specs.Reading.{breaks_form}
use Rattle.cedr_guard.specs.declared.state.EventState.{EventState}
use Rattle.cedr_guard.specs.Judging.{row_lives}
use Rattle.cedr_guard.specs.States.{as_it_is}
use Rattle.cedr_guard.specs.Spelt.{State, state_row, state_with, IsState, IsBareEvent}
use Rattle.cedr_save.specs.Checkpoints.{Source, IsSmall, AreSaved, HasId, HasFields, event_line, source_line, end_line, checkpoint_lines}

-- an event as it is: without its fields where it is withdrawn
abbrev pub bare_event : EventState → EventState
bare_event e = state_with e.id (as_it_is (state_row e))

-- an event that a source of these field types may have
pub record IsSavedEvent (types : List FieldType) (e : EventState) : Type 0 where
  pub state : IsState e
  pub id : HasId e
  pub fields : HasFields types e

-- a field of a type, whose text may have any bytes
abbrev pub IsLoose : FieldType → Field → Type 0
IsLoose types.Number (Number n) = IsSmall n
IsLoose types.Number (Bytes text) = ⊥
IsLoose types.Bytes (Number n) = ⊥
IsLoose types.Bytes (Bytes text) = Unit {0}

-- one such field of each type
abbrev pub AreLoose : List FieldType → List Field → Type 0
AreLoose [] [] = Unit {0}
AreLoose [] (field ∷ fields) = ⊥
AreLoose (type ∷ types) [] = ⊥
AreLoose (type ∷ types) (field ∷ fields) = IsLoose type field × AreLoose types fields

-- what a version says that is read
pub record IsVersion (types : List FieldType) (id : ℕ) (row : Row) : Type 0 where
  pub id_fits : id < 2 ^ 64
  pub lives : row_lives row ≡ true
  pub begins : row.begin < FOREVER
  pub ends : row.end ≤ FOREVER
  pub fields : AreLoose types row.payload

-- a line that is read as a version says one, and has no carriage return
pub record SaysVersion (types : List FieldType) (line : List ℕ) (id : ℕ) (row : Row) : Type 0 where
  pub unbroken : breaks_form line ≡ false
  pub is : IsVersion types id row

-- the event, as it is, whose line this is, or nothing where the line is none's
abbrev pub ReadsEvent : Option EventState → List FieldType → List ℕ → Type 0
ReadsEvent (Some e) types line = IsSavedEvent types e × IsBareEvent e × (line ≡ event_line e)
ReadsEvent None types line = (e : EventState) → IsSavedEvent types e → line ≡ event_line e → ⊥

-- a withdrawn event, as it is
pub record IsWithdrawn (e : EventState) : Type 0 where
  pub id_fits : HasId e
  pub begins : e.begin < FOREVER
  pub gone : e.end ≡ e.begin
  pub bare : e.payload ≡ []

-- what a line that begins with an id says as the line of an event that lives: an event, whose texts may have any bytes;
-- and where the line is such an event's, just this event
pub record ReadsLiving (found : Option EventState) (types : List FieldType) (line : List ℕ) : Type 0 where
  pub some : IfSome found (λ e. SaysVersion types line e.id (state_row e))
  pub all : (e : EventState) → IsSavedEvent types e → row_lives (state_row e) ≡ true → line ≡ event_line e → found ≡ Some e

-- the guarantee of the line of a source with this name, or nothing where the line is no such one
abbrev pub ReadsMark : Option ℕ → List ℕ → List ℕ → Type 0
ReadsMark (Some mark) name line = (mark ≤ FOREVER) × (line ≡ source_line name mark)
ReadsMark None name line = (mark : ℕ) → mark ≤ FOREVER → line ≡ source_line name mark → ⊥

-- a line that comes after others in some checkpoint
pub record ComesNext (sources : List Source) (before : List (List ℕ)) (line : List ℕ) : Type 0 where
  pub states : List State
  pub more : List (List ℕ)
  pub saved : AreSaved sources states
  pub lines : checkpoint_lines sources states ≡ before ++ line ∷ more

-- a line that comes after others in some checkpoint begins with these bytes
pub record IsFront (sources : List Source) (before : List (List ℕ)) (front : List ℕ) : Type 0 where
  pub rest : List ℕ
  pub follows : ComesNext sources before (front ++ rest)

-- ids that are below a number
abbrev pub AreLower : ℕ → List ℕ → Type 0
AreLower id [] = Unit {0}
AreLower id (other ∷ ids) = (other < id) × AreLower id ids

-- the ids of events
abbrev pub ids_of : List EventState → List ℕ
ids_of events = map (λ (e : EventState). e.id) events

-- the line of an event of a source of these types, whose id is above others
pub record IsEventLine (source : Source) (ids : List ℕ) (line : List ℕ) : Type 0 where
  pub event : EventState
  pub saved : IsSavedEvent source.types event
  pub above : AreLower event.id ids
  pub is : line ≡ event_line event

-- the line of the next source, or the last one where there is none
abbrev pub IsNextLine : List Source → List ℕ → Type 0
IsNextLine [] line = line ≡ end_line
IsNextLine (source ∷ sources) line = (mark : ℕ) × (mark ≤ FOREVER) × (line ≡ source_line source.name mark)

-- the event with the greatest id whose line begins with these bytes, or nothing where no event's line does
abbrev pub EventOfFront : Option EventState → List FieldType → List ℕ → Type 0
EventOfFront (Some e) types front =
    IsSavedEvent types e × ((rest : List ℕ) × (front ++ rest ≡ event_line e)) × ((other : EventState) (rest : List ℕ) → IsSavedEvent types other → front ++ rest ≡ event_line other → other.id ≤ e.id)
EventOfFront None types front = (e : EventState) (rest : List ℕ) → IsSavedEvent types e → front ++ rest ≡ event_line e → ⊥
