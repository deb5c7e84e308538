-- The text of a checkpoint: one relation between the states of a plan's sources and bytes, for the writer and the reader.
use Rattle.std.specs.Prelude.{ℕ, ℤ, pos, negsuc, ◌≡◌, ◌<◌, ◌≤◌, ◌^◌, ◌==◌, ◌||◌, Bool, true, false, List, [], ◌∷◌, ◌++◌, map, length, codes, decimal, All, if◌then◌else◌}
use Rattle.std.specs.List.{list_any, flat_map}
use Rattle.cedr_base.specs.declared.field.Field.{Field}
use Rattle.cedr_base.specs.declared.field.Field.TheVariants.{Number, Bytes}
use Rattle.cedr_base.specs.declared.field.FieldType.{FieldType}
use Rattle.cedr_base.specs.declared.field.FieldType.TheVariants as types
use Rattle.cedr_base.specs.declared.row.Row.{Row}
use Rattle.cedr_base.specs.Bytes.{comma, line_feed}
use Rattle.cedr_text.specs.Texts.{carriage_return, time_text, payload_text}
use Rattle.cedr_guard.specs.declared.state.EventState.{EventState}
use Rattle.cedr_guard.specs.Judging.{row_lives}
use Rattle.cedr_guard.specs.States.{as_it_is}
use Rattle.cedr_guard.specs.Spelt.{State, state_row, IsFit, HasBare}
use Rattle.cedr_plan.specs.declared.plan.PlanNode.{PlanNode}
use Rattle.cedr_plan.specs.Places.{is_source}
use Rattle.cedr_save.specs.declared.reader.TheConstants.{CHECKPOINT_LIMIT}

-- ---- the sources of a plan

-- a source, by its name and the types of its fields
pub record Source : Type 0 where
  pub name : List ℕ
  pub types : List FieldType

-- the sources of a plan, in its order
abbrev pub plan_sources : List PlanNode → List Source
plan_sources [] = []
plan_sources (node ∷ nodes) = if is_source node.kind then record { name = node.name; types = node.types.items } ∷ plan_sources nodes else plan_sources nodes

-- ---- what may be saved

-- a number of 64 bits with sign
abbrev pub IsSmall : ℤ → Type 0
IsSmall (pos n) = n < 2 ^ 63
IsSmall (negsuc n) = n < 2 ^ 63

-- a byte that ends a line
abbrev pub ends_line : ℕ → Bool
ends_line b = (b == carriage_return) || (b == line_feed)

-- a field that a line of this source may have given: a number of 64 bits, or a text in one line
abbrev pub HasType : FieldType → Field → Type 0
HasType types.Number (Number n) = IsSmall n
HasType types.Number (Bytes text) = ⊥
HasType types.Bytes (Number n) = ⊥
HasType types.Bytes (Bytes text) = list_any ends_line text ≡ false

-- one field of each type
abbrev pub AreTyped : List FieldType → List Field → Type 0
AreTyped [] [] = Unit {0}
AreTyped [] (field ∷ fields) = ⊥
AreTyped (type ∷ types) [] = ⊥
AreTyped (type ∷ types) (field ∷ fields) = HasType type field × AreTyped types fields

-- an event that isn't withdrawn has a field of each type
abbrev pub HasFields : List FieldType → EventState → Type 0
HasFields types e = row_lives (state_row e) ≡ true → AreTyped types e.payload

-- an id of 64 bits
abbrev pub HasId : EventState → Type 0
HasId e = e.id < 2 ^ 64

-- a state that a source may have
pub record IsSaved (source : Source) (state : State) : Type 0 where
  pub fit : IsFit state
  pub ids : All HasId state.events
  pub fields : All (HasFields source.types) state.events

-- one such state for each source
abbrev pub AreSaved : List Source → List State → Type 0
AreSaved [] [] = Unit {0}
AreSaved [] (state ∷ states) = ⊥
AreSaved (source ∷ sources) [] = ⊥
AreSaved (source ∷ sources) (state ∷ states) = IsSaved source state × AreSaved sources states

-- ---- the text

-- `BEGIN,END,FIELD..`
abbrev pub row_line : Row → List ℕ
row_line row = time_text row.begin ++ comma ∷ (time_text row.end ++ payload_text row.payload)

-- `ID,BEGIN,END,FIELD..` of an event as it is: a withdrawn one has `ID,BEGIN,BEGIN`
abbrev pub event_line : EventState → List ℕ
event_line e = decimal e.id ++ comma ∷ row_line (as_it_is (state_row e))

-- `source,NAME,MARK`
abbrev pub source_line : List ℕ → ℕ → List ℕ
source_line name mark = codes "source," ++ (name ++ comma ∷ time_text mark)

-- the lines of a source: first its name and its guarantee, then its events
abbrev pub lines_of_source : List ℕ → State → List (List ℕ)
lines_of_source name state = source_line name state.mark ∷ map event_line state.events

-- the lines of each source, in the plan's order
abbrev pub states_lines : List Source → List State → List (List ℕ)
states_lines [] states = []
states_lines (source ∷ sources) [] = []
states_lines (source ∷ sources) (state ∷ states) = lines_of_source source.name state ++ states_lines sources states

-- the first line
abbrev pub head_line : List ℕ
head_line = codes "checkpoint,1"

-- the last line
abbrev pub end_line : List ℕ
end_line = codes "end"

-- the lines of a checkpoint
abbrev pub checkpoint_lines : List Source → List State → List (List ℕ)
checkpoint_lines sources states = head_line ∷ (states_lines sources states ++ end_line ∷ [])

-- lines, each of which ends with one line feed
abbrev pub ended_lines : List (List ℕ) → List ℕ
ended_lines lines = flat_map (λ line. line ++ line_feed ∷ []) lines

-- the text of the states of sources
abbrev pub checkpoint_text : List Source → List State → List ℕ
checkpoint_text sources states = ended_lines (checkpoint_lines sources states)

-- bytes that spell these states of a plan's sources
pub record IsCheckpoint (sources : List Source) (states : List State) (bytes : List ℕ) : Type 0 where
  pub saved : AreSaved sources states
  pub bare : All HasBare states
  pub text : bytes ≡ checkpoint_text sources states
  pub short : length bytes ≤ CHECKPOINT_LIMIT
