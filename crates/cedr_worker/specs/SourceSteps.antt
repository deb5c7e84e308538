-- A step of a source's worker: the next line of what was read, or the next block.
use Rattle.std.specs.Prelude.{ℕ, ◌≡◌, ◌≢◌, ◌<◌, ◌≤◌, ◌+◌, ◌⊎◌, length, true, false, List, [], ◌∷◌, ◌++◌, Option, None, Some, Result, Ok, Err, Vec}
use Rattle.std.specs.Global.{Global}
use Rattle.std.specs.Io.KnownBytes.{Consumes, IsAtEnd}
use Rattle.cedr_base.specs.declared.change.Message.{Message}
use Rattle.cedr_base.specs.declared.change.Message.TheVariants as message
use Rattle.cedr_base.specs.Messages.{IsLegal}
use Rattle.cedr_text.specs.declared.event_line.Shape.{Shape}
use Rattle.cedr_guard.specs.declared.refusal.TheConstants.{FILE_LIMIT}
use Rattle.worker_outlets.specs.Outgoing.{Outgoing, last_message}
use Rattle.worker_outlets.specs.Outlets.{AllTotal, AllStaged}
use Rattle.cedr_source.specs.declared.lines.SourceLines.{SourceLines}
use Rattle.cedr_source.specs.Reads.{ReadsSource, is_ended, lines_left}
use Rattle.cedr_worker.specs.declared.reading.TheConstants.{BLOCK}
use Rattle.cedr_worker.specs.declared.stop.SourceStop.{SourceStop}
use Rattle.cedr_worker.specs.declared.stop.SourceStop.TheVariants as stop
use Rattle.cedr_worker.specs.Stops.{last_at, IsGiven, StoppedAs, CountedSo}

-- ---- what happens in a step

-- a line was taken of what was read
abbrev pub LineTaken : SourceLines → SourceLines → Type 0
LineTaken old new = lines_left new < lines_left old

-- some bytes were read, at most a block: fewer are missing to the limit of a source, or it was passed
pub record BytesRead (rest left : Option (List ℕ)) (old new : SourceLines) : Type 0 where
  pub piece : List ℕ
  pub some : piece ≢ []
  pub few : length piece ≤ BLOCK
  pub read : Consumes rest left piece
  pub room : (new.room < old.room) ⊎ ((old.over_limit ≡ false) × (new.over_limit ≡ true))

-- a read gave 0
abbrev pub EndMet : SourceLines → SourceLines → Type 0
EndMet old new = (is_ended old ≡ false) × (is_ended new ≡ true)

-- a block came, or no more bytes come
abbrev pub BlockCame : Option (List ℕ) → Option (List ℕ) → SourceLines → SourceLines → Type 0
BlockCame rest left old new = BytesRead rest left old new ⊎ EndMet old new

-- the source went on
abbrev pub Advanced : Option (List ℕ) → Option (List ℕ) → SourceLines → SourceLines → Type 0
Advanced rest left old new = LineTaken old new ⊎ BlockCame rest left old new

-- ---- what a step answers

-- why the source stopped, by a step's answer, where it did
abbrev pub stop_of : Result (Vec Message Global) SourceStop → Option SourceStop
stop_of (Ok messages) = None
stop_of (Err s) = Some s

-- the messages that the source gave, if any, or that it stopped
abbrev pub TellsStep : Result (Vec Message Global) SourceStop → SourceLines → Shape → List ℕ → List Message → Type 0
TellsStep (Ok messages) lines shape bytes given = ReadsSource lines shape bytes (given ++ messages.items) × IsLegal (given ++ messages.items)
TellsStep (Err s) lines shape bytes given = StoppedAs s shape bytes given (is_ended lines)

-- What a step did, where these bytes were read and these messages given before it: from what was left of the source to
-- what is left, and from the count of its faults to what that is now. Where at most a block more was read than a source may have, that
-- is so still.
pub record TookStep (answer : Result (Vec Message Global) SourceStop) (old new : SourceLines) (rest left : Option (List ℕ)) (faults count : ℕ) (shape : Shape) (bytes : List ℕ) (given : List Message) : Type 0 where
  pub piece : List ℕ
  pub few : length bytes ≤ FILE_LIMIT + BLOCK → length (bytes ++ piece) ≤ FILE_LIMIT + BLOCK
  pub read : Consumes rest left piece
  pub at_end : (is_ended old ≡ true → IsAtEnd rest) → is_ended new ≡ true → IsAtEnd left
  pub counted : CountedSo (stop_of answer) faults count
  pub tells : TellsStep answer new shape (bytes ++ piece) given
  pub is_given : IsGiven shape (bytes ++ piece) given (is_ended new)

-- ---- what becomes of the answer

-- the messages may come after what was given
abbrev pub MayPass : Result (Vec Message Global) SourceStop → List Message → Type 0
MayPass (Ok messages) given = IsLegal (given ++ messages.items)
MayPass (Err s) given = Unit {0}

-- Where there was memory for the messages, they are meant for each out edge. Where there was none, or the source stops,
-- the last message is. The answer says whether the source stops.
abbrev pub Passed : Result (Vec Message Global) SourceStop → Option SourceStop → List Message → List Outgoing → Type 0
Passed (Ok messages) now given outlets = ((now ≡ None) × AllTotal (given ++ messages.items) outlets × AllStaged [] outlets) ⊎ ((now ≡ Some stop.OutOfMemory) × AllTotal (given ++ message.Broken ∷ []) outlets)
Passed (Err s) now given outlets = (now ≡ Some s) × AllTotal (given ++ last_message (last_at s) ∷ []) outlets
