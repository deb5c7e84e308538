-- What was read of a source so far, and what was given for it.
use Rattle.std.specs.Prelude.{ℕ, ◌≡◌, ◌≤◌, ◌+◌, ◌-◌, Bool, true, List, [], ◌++◌, length, take, nat_lt, None}
use Rattle.cedr_base.specs.declared.change.Message.{Message}
use Rattle.cedr_text.specs.declared.event_line.EventLine.{EventLine}
use Rattle.cedr_text.specs.declared.event_line.Shape.{Shape}
use Rattle.cedr_text.specs.Lines.{Fed, raw_lines}
use Rattle.cedr_guard.specs.declared.refusal.TheConstants.{FILE_LIMIT}
use Rattle.cedr_guard.specs.Messages.{messages_behind, entries_behind, messages_in}
use Rattle.cedr_guard.specs.Sources.{judged_lines}
use Rattle.cedr_guard.specs.Standing.{Guards}
use Rattle.cedr_source.specs.declared.lines.SourceLines.{SourceLines}

-- what may still come: nothing after the end
abbrev pub MayStillCome : Fed → List ℕ → Type 0
MayStillCome fed more = fed.finished ≡ true → more ≡ []

-- these lines were taken off the bytes, whatever may still come
abbrev pub AreTaken : Fed → List ℕ → List (List ℕ) → Type 0
AreTaken fed bytes taken = (more : List ℕ) → MayStillCome fed more → raw_lines (bytes ++ more) ≡ taken ++ raw_lines (fed.kept ++ more)

-- it is known that no more bytes come
abbrev pub is_ended : SourceLines → Bool
is_ended source = source.lines.finished

-- these bytes of a source were fed, and these messages given
pub record ReadsSource (source : SourceLines) (shape : Shape) (bytes : List ℕ) (given : List Message) : Type 0 where
  pub same_shape : source.shape ≡ shape
  -- the lines that were taken: over the limit they are lines of the first bytes
  pub taken : List (List ℕ)
  pub taken_are : AreTaken source.lines (take FILE_LIMIT bytes) taken
  pub number : source.number ≡ length taken + 1
  -- each was accepted, and the messages of all of them were given
  pub good : List EventLine
  pub accepted : judged_lines shape taken ≡ record { good = good; fault = None }
  pub guards : Guards source.guard good
  pub messages : given ≡ messages_behind [] good
  -- how many bytes are missing to the limit, and whether more came
  pub room : source.room ≡ FILE_LIMIT - length bytes
  pub over : source.over_limit ≡ nat_lt FILE_LIMIT (length bytes)
  pub ended : is_ended source ≡ true → length bytes ≤ FILE_LIMIT

-- these bytes of a source were fed, and the messages of its lines were given line by line
pub record ReadsByLine (source : SourceLines) (shape : Shape) (bytes : List ℕ) (given : List (List Message)) : Type 0 where
  pub reads : ReadsSource source shape bytes (messages_in given)
  pub lines : given ≡ entries_behind [] reads.good

-- how many lines the bytes that were fed and not taken are, if no more come
abbrev pub lines_left : SourceLines → ℕ
lines_left source = length (raw_lines source.lines.kept)
