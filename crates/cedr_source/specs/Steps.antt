-- What an answer says of a source: of the bytes that were fed, and of all bytes that begin with them.
use Rattle.std.specs.Prelude.{ℕ, ◌≡◌, ◌<◌, ◌≤◌, true, false, List, [], ◌∷◌, ◌++◌, length, None, Some, Result, Ok, Err, IsErr}
use Rattle.cedr_base.specs.declared.memory.OutOfMemory.{OutOfMemory}
use Rattle.cedr_base.specs.declared.change.Message.{Message}
use Rattle.cedr_base.specs.declared.change.Message.TheVariants as message
use Rattle.cedr_base.specs.Messages.{IsLegal}
use Rattle.cedr_text.specs.declared.event_line.EventLine.{EventLine}
use Rattle.cedr_text.specs.declared.event_line.Shape.{Shape}
use Rattle.cedr_text.specs.declared.fault.LineFault.{LineFault}
use Rattle.cedr_text.specs.declared.lines.TheConstants.{LINE_LIMIT}
use Rattle.cedr_base.specs.Bytes.{line_feed}
use Rattle.cedr_text.specs.Parts.{parts_of}
use Rattle.cedr_guard.specs.declared.fault.GuardFault.{GuardFault}
use Rattle.cedr_guard.specs.declared.fault.GuardFault.TheVariants as guard_fault
use Rattle.cedr_guard.specs.declared.guard.Guard.{Guard}
use Rattle.cedr_guard.specs.declared.refusal.Refusal.{Refusal}
use Rattle.cedr_guard.specs.declared.refusal.TheConstants.{FILE_LIMIT}
use Rattle.cedr_guard.specs.Messages.{messages_behind, messages_in, Appended}
use Rattle.cedr_guard.specs.Sources.{judged, judged_lines, messages_of, messages_by_line, whole_lines, unfinished_line}
use Rattle.cedr_guard.specs.Standing.{Guards}
use Rattle.cedr_source.specs.declared.lines.SourceLines.{SourceLines}
use Rattle.cedr_source.specs.declared.step.SourceStep.{SourceStep}
use Rattle.cedr_source.specs.declared.step.SourceStep.TheVariants as step
use Rattle.cedr_source.specs.Reads.{MayStillCome, is_ended, lines_left, ReadsSource, ReadsByLine}

-- these are a front of some messages
pub record IsFrontOf (front all : List Message) : Type 0 where
  pub rest : List Message
  pub begins : front ++ rest ≡ all

-- what was given is a front of the messages of the good lines, whatever may still come
pub record GivesFront (source : SourceLines) (shape : Shape) (bytes : List ℕ) (given : List Message) : Type 0 where
  pub front : (more : List ℕ) → MayStillCome source.lines more → IsFrontOf given (messages_behind [] (judged shape (bytes ++ more)).good)
  pub legal : IsLegal given

-- All lines that ended were taken, so that none of them is among the bytes that are kept, and none has a fault. More bytes
-- may come, and the line that they go on with isn't too long yet.
pub record Waits (source : SourceLines) (shape : Shape) (bytes : List ℕ) (given : List Message) : Type 0 where
  pub goes_on : is_ended source ≡ false
  pub within : length bytes ≤ FILE_LIMIT
  pub none_left : whole_lines (parts_of line_feed source.lines.kept) ≡ []
  pub short : length (unfinished_line (parts_of line_feed bytes)) ≤ LINE_LIMIT
  pub faultless : (judged_lines shape (whole_lines (parts_of line_feed bytes))).fault ≡ None
  pub all : given ≡ messages_behind [] (judged_lines shape (whole_lines (parts_of line_feed bytes))).good

-- the source has no fault, and with the end all its messages were given
pub record IsClosedSource (source : SourceLines) (shape : Shape) (bytes : List ℕ) (given : List Message) : Type 0 where
  pub ended : is_ended source ≡ true
  pub faultless : (judged shape bytes).fault ≡ None
  pub all : given ++ message.End ∷ [] ≡ messages_of shape bytes

-- the source has this fault, whatever may still come, and the messages of its good lines were given
pub record IsRefused (source : SourceLines) (shape : Shape) (bytes : List ℕ) (given : List Message) (refusal : Refusal) : Type 0 where
  pub fault : (more : List ℕ) → MayStillCome source.lines more → (judged shape (bytes ++ more)).fault ≡ Some refusal
  pub all : (more : List ℕ) → MayStillCome source.lines more → given ≡ messages_behind [] (judged shape (bytes ++ more)).good

-- What an answer says of a source, where these bytes were fed and these messages given before it: the line that was taken
-- gave these, and any other answer gave none.
abbrev pub AnswersStep : SourceStep → SourceLines → Shape → List ℕ → List Message → List Message → Type 0
AnswersStep step.Line source shape bytes given added = ReadsSource source shape bytes (given ++ added) × IsLegal (given ++ added)
AnswersStep step.NotYet source shape bytes given added = ReadsSource source shape bytes given × Waits source shape bytes given
AnswersStep step.Closed source shape bytes given added = ReadsSource source shape bytes given × IsClosedSource source shape bytes given
AnswersStep (step.Refused refusal) source shape bytes given added = IsRefused source shape bytes given refusal

-- the entry of a line that was taken: an empty line has none
abbrev pub line_entry : List ℕ → List Message → List (List Message)
line_entry [] added = []
line_entry (b ∷ bytes) added = added ∷ []

-- the same line by line: the line that was taken has an entry for its messages, or is empty and gave none
abbrev pub AnswersEntry : SourceStep → SourceLines → Shape → List ℕ → List (List Message) → List Message → Type 0
AnswersEntry step.Line source shape bytes given added = ReadsByLine source shape bytes (given ++ line_entry source.line.items added) × (messages_in (line_entry source.line.items added) ≡ added)
AnswersEntry step.NotYet source shape bytes given added = ReadsByLine source shape bytes given
AnswersEntry step.Closed source shape bytes given added = ReadsByLine source shape bytes given × (given ++ (message.End ∷ []) ∷ [] ≡ messages_by_line shape bytes)
AnswersEntry (step.Refused refusal) source shape bytes given added = Unit {0}

-- a line was taken, which is one less, or else nothing was added
abbrev pub TakesLine : SourceStep → ℕ → ℕ → List Message → Type 0
TakesLine step.Line left now added = now < left
TakesLine step.NotYet left now added = added ≡ []
TakesLine step.Closed left now added = added ≡ []
TakesLine (step.Refused refusal) left now added = added ≡ []

-- what an answer says, by what it appended
pub record LineAnswered (said : SourceStep) (old new : SourceLines) (before after : List Message) : Type 0 where
  pub appended : Appended before after
  pub takes : TakesLine said (lines_left old) (lines_left new) appended.added
  pub says : (shape : Shape) (bytes : List ℕ) (given : List Message) → ReadsSource old shape bytes given → AnswersStep said new shape bytes given appended.added
  pub by_line : (shape : Shape) (bytes : List ℕ) (given : List (List Message)) → ReadsByLine old shape bytes given → AnswersEntry said new shape bytes given appended.added

-- the refusal of the line of this number, for this fault
abbrev pub refused_at : ℕ → LineFault → SourceStep
refused_at line fault = step.Refused (record { line = line; fault = fault })

-- the answer for the line of this number, by how it was judged after the accepted ones
abbrev pub AnswersLine : ℕ → Result (Unit {0}) GuardFault → Result SourceStep OutOfMemory → Type 0
AnswersLine number (Ok done) answer = answer ≡ Ok step.Line
AnswersLine number (Err (guard_fault.Line fault)) answer = answer ≡ Ok (refused_at number fault)
AnswersLine number (Err guard_fault.OutOfMemory) answer = IsErr answer

-- a line after accepted ones: with it they are accepted, and its messages were appended, or it has this fault
abbrev pub JudgesLine : Result (Unit {0}) GuardFault → Guard → List EventLine → Result (List EventLine) LineFault → List Message → List Message → Type 0
JudgesLine (Ok done) guard before now old new = (lines : List EventLine) × (now ≡ Ok lines) × Guards guard lines × (messages : List Message) × (new ≡ old ++ messages) × (messages_behind [] lines ≡ messages_behind [] before ++ messages)
JudgesLine (Err (guard_fault.Line fault)) guard before now old new = now ≡ Err fault
JudgesLine (Err guard_fault.OutOfMemory) guard before now old new = Unit {0}
