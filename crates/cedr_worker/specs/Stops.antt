-- Why a source's worker stopped, and what that says of its source.
use Rattle.std.specs.Prelude.{ℕ, ◌≡◌, Bool, true, false, List, [], ◌∷◌, ◌++◌, Option, None, Some}
use Rattle.cedr_base.specs.declared.change.Message.{Message}
use Rattle.cedr_base.specs.declared.change.Message.TheVariants as message
use Rattle.cedr_base.specs.Messages.{IsLegal}
use Rattle.cedr_text.specs.declared.event_line.Shape.{Shape}
use Rattle.cedr_text.specs.declared.fault.LineFault.{LineFault}
use Rattle.cedr_guard.specs.Messages.{messages_behind}
use Rattle.cedr_guard.specs.Sources.{judged, messages_of}
use Rattle.cedr_io.specs.Counts.{Rose}
use Rattle.node_laws.specs.Lawful.{is_over}
use Rattle.worker_outlets.specs.declared.last.Last.{Last}
use Rattle.worker_outlets.specs.declared.last.Last.TheVariants as last
use Rattle.worker_outlets.specs.Outgoing.{last_message}
use Rattle.cedr_source.specs.Steps.{IsFrontOf}
use Rattle.cedr_worker.specs.declared.stop.SourceStop.{SourceStop}
use Rattle.cedr_worker.specs.declared.stop.SourceStop.TheVariants as stop

-- the message that the out edges end with
abbrev pub last_at : SourceStop → Last
last_at stop.Closed = last.End
last_at (stop.Refused line fault) = last.Broken
last_at stop.ReadFault = last.Broken
last_at stop.OutOfMemory = last.Broken

-- all that is meant for each out edge, where these are the messages of the lines that were taken
abbrev pub meant : List Message → Option SourceStop → List Message
meant given None = given
meant given (Some s) = given ++ last_message (last_at s) ∷ []

-- the bytes that may still come: none where a read gave 0
abbrev pub BytesMayCome : Bool → List ℕ → Type 0
BytesMayCome ended more = ended ≡ true → more ≡ []

-- these are the first messages of the good lines of all bytes, whatever may still come after the bytes read
pub record IsGiven (shape : Shape) (bytes : List ℕ) (given : List Message) (ended : Bool) : Type 0 where
  pub front : (more : List ℕ) → BytesMayCome ended more → IsFrontOf given (messages_behind [] (judged shape (bytes ++ more)).good)
  pub legal : IsLegal given
  pub goes : is_over given ≡ false

-- a read gave 0, no line has a fault, and with the end all messages were given
pub record ClosedAs (shape : Shape) (bytes : List ℕ) (given : List Message) (ended : Bool) : Type 0 where
  pub at_end : ended ≡ true
  pub faultless : (judged shape bytes).fault ≡ None
  pub all : given ++ message.End ∷ [] ≡ messages_of shape bytes

-- this is the first line with a fault, whatever may still come, and the messages of all lines before it were given
pub record RefusedAs (shape : Shape) (bytes : List ℕ) (given : List Message) (ended : Bool) (line : ℕ) (fault : LineFault) : Type 0 where
  pub first : (more : List ℕ) → BytesMayCome ended more → (judged shape (bytes ++ more)).fault ≡ Some (record { line = line; fault = fault })
  pub all : (more : List ℕ) → BytesMayCome ended more → given ≡ messages_behind [] (judged shape (bytes ++ more)).good

-- what a stop says of the bytes read and the messages given; a refused read comes after none that gave 0
abbrev pub StoppedAs : SourceStop → Shape → List ℕ → List Message → Bool → Type 0
StoppedAs stop.Closed shape bytes given ended = ClosedAs shape bytes given ended
StoppedAs (stop.Refused line fault) shape bytes given ended = RefusedAs shape bytes given ended line fault
StoppedAs stop.ReadFault shape bytes given ended = ended ≡ false
StoppedAs stop.OutOfMemory shape bytes given ended = Unit {0}

-- the same of a source that may have stopped: one that didn't says nothing
abbrev pub StoppedSo : Option SourceStop → Shape → List ℕ → List Message → Bool → Type 0
StoppedSo None shape bytes given ended = Unit {0}
StoppedSo (Some s) shape bytes given ended = StoppedAs s shape bytes given ended

-- the source's count rose where a read was refused, and is as it was else
abbrev pub CountedSo : Option SourceStop → ℕ → ℕ → Type 0
CountedSo None count now = now ≡ count
CountedSo (Some stop.Closed) count now = now ≡ count
CountedSo (Some (stop.Refused line fault)) count now = now ≡ count
CountedSo (Some stop.ReadFault) count now = Rose count now
CountedSo (Some stop.OutOfMemory) count now = now ≡ count

-- what a Broken on an out edge says: the source stopped, and not as closed
abbrev pub BreaksSo : Option SourceStop → Type 0
BreaksSo None = ⊥
BreaksSo (Some stop.Closed) = ⊥
BreaksSo (Some (stop.Refused line fault)) = Unit {0}
BreaksSo (Some stop.ReadFault) = Unit {0}
BreaksSo (Some stop.OutOfMemory) = Unit {0}
