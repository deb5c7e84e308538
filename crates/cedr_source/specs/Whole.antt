-- What is answered for a whole source.
use Rattle.std.specs.Prelude.{ℕ, ◌≡◌, ◌≤◌, ◌+◌, ◌⊎◌, List, [], ◌∷◌, ◌++◌, length, Option, None, Some, unwrap_or, Result, Ok, Err, sum_by}
use Rattle.std.specs.Io.KnownBytes.{Consumes, IsAtEnd}
use Rattle.cedr_base.specs.declared.change.Message.{Message}
use Rattle.cedr_base.specs.declared.change.Message.TheVariants as message
use Rattle.cedr_io.specs.Counts.{Rose}
use Rattle.cedr_text.specs.declared.event_line.Shape.{Shape}
use Rattle.cedr_guard.specs.declared.refusal.TheConstants.{FILE_LIMIT}
use Rattle.cedr_guard.specs.Messages.{messages_in}
use Rattle.cedr_guard.specs.Sources.{judged, messages_by_line}
use Rattle.cedr_source.specs.declared.fault.Unread.{Unread}
use Rattle.cedr_source.specs.declared.fault.Unread.TheVariants as unread
use Rattle.cedr_source.specs.declared.read.Reading.{Reading}
use Rattle.cedr_source.specs.Entries.{entries_by}
use Rattle.cedr_source.specs.Reads.{ReadsByLine}
use Rattle.cedr_source.specs.Steps.{Waits, IsClosedSource, IsRefused}

-- the count rose where a read failed, and is as before at every other answer
abbrev pub CountsSource : {T : Type 0} → Result T Unread → ℕ → ℕ → Type 0
CountsSource (Ok done) old new = new ≡ old
CountsSource (Err (unread.Refused refusal)) old new = new ≡ old
CountsSource (Err unread.Failed) old new = Rose old new
CountsSource (Err unread.OutOfMemory) old new = new ≡ old

-- all messages of a source of these bytes, line by line, where it has no fault, or its first fault
abbrev pub AnswersAll : Result (List (List Message)) Unread → Shape → List ℕ → Type 0
AnswersAll (Ok entries) shape all = ((judged shape all).fault ≡ None) × (entries ≡ messages_by_line shape all)
AnswersAll (Err (unread.Refused refusal)) shape all = (judged shape all).fault ≡ Some refusal
AnswersAll (Err unread.Failed) shape all = Unit {0}
AnswersAll (Err unread.OutOfMemory) shape all = Unit {0}

-- nothing is left of a source without a fault
abbrev pub IsReadWhole : {T : Type 0} → Result T Unread → Option (List ℕ) → Type 0
IsReadWhole (Ok done) left = IsAtEnd left
IsReadWhole (Err fault) left = Unit {0}

-- some bytes were read, at most one block more than a source may have. The answer is that for them and for what
-- is left, where that is known
pub record Answered (answer : Result (List (List Message)) Unread) (shape : Shape) (rest left : Option (List ℕ)) : Type 0 where
  pub bytes : List ℕ
  pub took : Consumes rest left bytes
  pub few : length bytes ≤ FILE_LIMIT + 4096
  pub whole : IsReadWhole answer left
  pub answers : AnswersAll answer shape (bytes ++ unwrap_or left [])

-- ---- block by block

-- the entries of what was read so far
abbrev pub read_entries : Reading → List (List Message)
read_entries reading = entries_by reading.counts.items reading.messages.items

-- these bytes of a source were fed, and the entries of its lines that were taken are kept as they should be
pub record HoldsRead (reading : Reading) (shape : Shape) (bytes : List ℕ) : Type 0 where
  pub reads : ReadsByLine reading.lines shape bytes (read_entries reading)
  pub counted : sum_by (λ (n : ℕ). n) reading.counts.items ≡ length reading.messages.items

-- the source is closed, and with the end all its messages were given line by line
pub record IsClosedByLine (reading : Reading) (shape : Shape) (bytes : List ℕ) : Type 0 where
  pub closed : IsClosedSource reading.lines shape bytes (messages_in (read_entries reading))
  pub all : read_entries reading ++ (message.End ∷ []) ∷ [] ≡ messages_by_line shape bytes

-- all lines that there are were taken: more bytes are needed, or the source is closed, or it is refused
abbrev pub TookAll : Result (Unit {0}) Unread → Reading → Shape → List ℕ → Type 0
TookAll (Ok done) reading shape bytes = HoldsRead reading shape bytes × (Waits reading.lines shape bytes (messages_in (read_entries reading)) ⊎ IsClosedByLine reading shape bytes)
TookAll (Err (unread.Refused refusal)) reading shape bytes = IsRefused reading.lines shape bytes (messages_in (read_entries reading)) refusal
TookAll (Err unread.Failed) reading shape bytes = ⊥
TookAll (Err unread.OutOfMemory) reading shape bytes = Unit {0}

-- what was read, and all that it gave so far line by line, or its first fault, whatever may still come
abbrev pub HasRead : Result Reading Unread → Shape → List ℕ → Type 0
HasRead (Ok reading) shape bytes = HoldsRead reading shape bytes × (length bytes ≤ FILE_LIMIT)
HasRead (Err (unread.Refused refusal)) shape bytes = (more : List ℕ) → (judged shape (bytes ++ more)).fault ≡ Some refusal
HasRead (Err unread.Failed) shape bytes = Unit {0}
HasRead (Err unread.OutOfMemory) shape bytes = Unit {0}

-- some bytes were read, at most one block more than a source may have, and all that there are where no fault
-- comes of them. The answer is what they gave, or their first fault
pub record ReadBlocks (answer : Result Reading Unread) (shape : Shape) (rest left : Option (List ℕ)) : Type 0 where
  pub bytes : List ℕ
  pub took : Consumes rest left bytes
  pub few : length bytes ≤ FILE_LIMIT + 4096
  pub whole : IsReadWhole answer left
  pub read : HasRead answer shape bytes

-- ---- the end

-- no more bytes come: all messages line by line with the end, or the first fault
abbrev pub Closes : Result (List (List Message)) Unread → Shape → List ℕ → Type 0
Closes (Ok entries) shape bytes = AnswersAll (Ok entries) shape bytes
Closes (Err (unread.Refused refusal)) shape bytes = AnswersAll (Err (unread.Refused refusal)) shape bytes
Closes (Err unread.Failed) shape bytes = ⊥
Closes (Err unread.OutOfMemory) shape bytes = Unit {0}
