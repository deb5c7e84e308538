-- All sources of a plan, read from files as a whole.
use Rattle.std.specs.Prelude.{ℕ, ◌≡◌, ◌<◌, Bool, length, take, slice_index_or, List, [], ◌∷◌, ◌++◌, true, false, Option, None, Some, IfSome, Result, Ok, Err, Vec}
use Rattle.std.specs.Global.{Global}
use Rattle.cedr_base.specs.declared.change.Message.{Message}
use Rattle.cedr_base.specs.declared.field.FieldType.{FieldType}
use Rattle.cedr_guard.specs.declared.refusal.Refusal.{Refusal}
use Rattle.cedr_guard.specs.Sources.{judged, messages_by_line}
use Rattle.cedr_io.specs.Counts.{Rose}
use Rattle.cedr_plan.specs.Places.{is_source, source_count}
use Rattle.cedr_plan.specs.declared.plan.PlanNode.{PlanNode}
use Rattle.cedr_source.specs.declared.fault.Unread.{Unread}
use Rattle.cedr_source.specs.declared.fault.Unread.TheVariants as unread
use Rattle.cedr_text.specs.declared.event_line.Shape.{Shape}
use Rattle.cedr_text.specs.Shapes.{ShapeHasTypes}
use Rattle.plan_answer.specs.declared.faulty.FaultySource.{FaultySource}
use Rattle.plan_answer.specs.Sources.{faulty_from, file_of}
use Rattle.plan_serial.specs.Rounds.{ByLine}
use Rattle.plan_serial.specs.declared.sources.ReadSoFar.{ReadSoFar}
use Rattle.plan_serial.specs.declared.sources.SourcesFault.{SourcesFault}
use Rattle.plan_serial.specs.declared.sources.SourcesFault.TheVariants as sources_fault

-- ---- what was read

-- What was read of a node line by line: of a source its first fault, or without one all its messages; of any other node
-- nothing.
pub record HasLines (told : List ℕ → List ℕ) (node : PlanNode) (entries : List (List Message)) (fault : Option Refusal) : Type 0 where
  pub source : is_source node.kind ≡ true → (shape : Shape) × ShapeHasTypes shape node.types.items × ((judged shape (told (file_of node.kind))).fault ≡ fault) × (fault ≡ None → entries ≡ messages_by_line shape (told (file_of node.kind)))
  pub other : is_source node.kind ≡ false → (entries ≡ []) × (fault ≡ None)

-- the same of each of some nodes, in order
abbrev pub AllHaveLines : (List ℕ → List ℕ) → List PlanNode → ByLine → List (Option Refusal) → Type 0
AllHaveLines told [] [] [] = Unit {0}
AllHaveLines told [] (l ∷ ls) faults = ⊥
AllHaveLines told [] [] (f ∷ faults) = ⊥
AllHaveLines told (n ∷ nodes) [] faults = ⊥
AllHaveLines told (n ∷ nodes) (l ∷ ls) [] = ⊥
AllHaveLines told (n ∷ nodes) (l ∷ ls) (f ∷ faults) = HasLines told n l f × AllHaveLines told nodes ls faults

-- what was read of the nodes line by line, and which sources are faulty
pub record AreReadByLine (told : List ℕ → List ℕ) (nodes : List PlanNode) (lines : ByLine) (faulty : List FaultySource) : Type 0 where
  pub faults : List (Option Refusal)
  pub given : AllHaveLines told nodes lines faults
  pub faulty_are : faulty ≡ faulty_from 0 faults

-- a file of these types: all messages of its bytes line by line, or their first fault
abbrev pub AnswersFile : Result (List (List Message)) Unread → List FieldType → List ℕ → Type 0
AnswersFile (Ok entries) types all = (shape : Shape) × ShapeHasTypes shape types × ((judged shape all).fault ≡ None) × (entries ≡ messages_by_line shape all)
AnswersFile (Err (unread.Refused refusal)) types all = (shape : Shape) × ShapeHasTypes shape types × ((judged shape all).fault ≡ Some refusal)
AnswersFile (Err unread.Failed) types all = Unit {0}
AnswersFile (Err unread.OutOfMemory) types all = Unit {0}

-- all sources are accepted and give their messages line by line, or these are faulty
abbrev pub AnswersSources : Result (Vec (List (List Message)) Global) SourcesFault → (List ℕ → List ℕ) → List PlanNode → Type 0
AnswersSources (Ok left) told nodes = AreReadByLine told nodes left.items []
AnswersSources (Err (sources_fault.Events faulty)) told nodes = (lines : ByLine) × AreReadByLine told nodes lines faulty.items × (0 < length faulty.items)
AnswersSources (Err sources_fault.Read) told nodes = Unit {0}
AnswersSources (Err sources_fault.OutOfMemory) told nodes = Unit {0}

-- of each source of a plan, by its number among them: all messages that its file holds line by line, or their first fault
abbrev pub AreReadOf : (List ℕ → Option (List ℕ)) → List PlanNode → List (Result (List (List Message)) Unread) → Type 0
AreReadOf content nodes reads =
    (place : ℕ) (node : PlanNode) (read : Result (List (List Message)) Unread) → place < length nodes → node ≡ slice_index_or nodes place node → is_source node.kind ≡ true → read ≡ slice_index_or reads (source_count (take place nodes)) read
    → IfSome (content (file_of node.kind)) (λ all. AnswersFile read node.types.items all)

-- a read was refused
abbrev pub is_failed : {T : Type 0} → Result T Unread → Bool
is_failed (Ok done) = false
is_failed (Err (unread.Refused refusal)) = false
is_failed (Err unread.Failed) = true
is_failed (Err unread.OutOfMemory) = false

-- the files' count rose where a read failed, and is as before at every other answer
abbrev pub CountsSources : {T : Type 0} → Result T SourcesFault → ℕ → ℕ → Type 0
CountsSources (Ok done) old new = new ≡ old
CountsSources (Err (sources_fault.Events faulty)) old new = new ≡ old
CountsSources (Err sources_fault.Read) old new = Rose old new
CountsSources (Err sources_fault.OutOfMemory) old new = new ≡ old

-- ---- node by node

-- what is no source gives nothing
abbrev pub IsNothing : Result (List (List Message)) Unread → Type 0
IsNothing (Ok entries) = entries ≡ []
IsNothing (Err fault) = ⊥

-- the entries or the fault of one node more are noted
abbrev pub Notes : Result (List (List Message)) Unread → ReadSoFar → ReadSoFar → ℕ → Type 0
Notes (Ok entries) old new place = (new.left.items ≡ old.left.items ++ entries ∷ []) × (new.faulty.items ≡ old.faulty.items)
Notes (Err (unread.Refused refusal)) old new place = (new.left.items ≡ old.left.items ++ [] ∷ []) × (new.faulty.items ≡ old.faulty.items ++ record { place = place; refusal = refusal } ∷ [])
Notes (Err unread.Failed) old new place = ⊥
Notes (Err unread.OutOfMemory) old new place = ⊥

-- a read that failed is answered, and anything else is want of memory
abbrev pub PassesOn : Result (Unit {0}) SourcesFault → Result (List (List Message)) Unread → Type 0
PassesOn (Ok done) read = Unit {0}
PassesOn (Err (sources_fault.Events faulty)) read = ⊥
PassesOn (Err sources_fault.Read) read = read ≡ Err unread.Failed
PassesOn (Err sources_fault.OutOfMemory) read = read ≡ Err unread.Failed → ⊥
