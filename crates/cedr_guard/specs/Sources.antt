-- The bytes of a source: its lines judged one after the other, its messages and its canonical history.
use Rattle.std.specs.Prelude.{ℕ, ◌+◌, List, [], ◌∷◌, ◌++◌, length, map, take, nat_lt, if◌then◌else◌, Option, None, Some, Result, Ok, Err}
use Rattle.cedr_base.specs.declared.row.Row.{Row}
use Rattle.cedr_base.specs.declared.change.Message.{Message}
use Rattle.cedr_base.specs.declared.change.Message.TheVariants as message
use Rattle.cedr_text.specs.declared.event_line.EventLine.{EventLine}
use Rattle.cedr_text.specs.declared.event_line.Shape.{Shape}
use Rattle.cedr_text.specs.declared.fault.LineFault.{LineFault}
use Rattle.cedr_text.specs.declared.fault.LineFault.TheVariants.{LineTooLong, TooLarge}
use Rattle.cedr_text.specs.declared.lines.TheConstants.{LINE_LIMIT}
use Rattle.cedr_text.specs.Lines.{raw_lines, without_return}
use Rattle.cedr_base.specs.Bytes.{line_feed}
use Rattle.cedr_text.specs.Parts.{parts_of}
use Rattle.cedr_text.specs.Reading.{reading}
use Rattle.cedr_guard.specs.declared.refusal.Refusal.{Refusal}
use Rattle.cedr_guard.specs.declared.refusal.TheConstants.{FILE_LIMIT}
use Rattle.cedr_guard.specs.Judging.{fault_behind}
use Rattle.cedr_guard.specs.History.{history_of}
use Rattle.cedr_guard.specs.Messages.{messages_behind, entries_behind}

-- ---- one line

-- the accepted lines with one more, or its fault
abbrev pub with_event : List EventLine → EventLine → Option LineFault → Result (List EventLine) LineFault
with_event before event None = Ok (before ++ event ∷ [])
with_event before event (Some fault) = Err fault

-- the accepted lines with what one more line says, if it says anything, or its fault
abbrev pub with_reading : List EventLine → Result (Option EventLine) LineFault → Result (List EventLine) LineFault
with_reading before (Err fault) = Err fault
with_reading before (Ok None) = Ok before
with_reading before (Ok (Some event)) = with_event before event (fault_behind before event)

-- what a line says, where it isn't too long
abbrev pub line_reading : Shape → List ℕ → Result (Option EventLine) LineFault
line_reading shape line = if nat_lt LINE_LIMIT (length line) then Err LineTooLong else reading shape (without_return line)

-- ---- one line after the other

-- the accepted lines, which stand before the first line that has a fault, and that line's number and fault
pub record Judged : Type 0 where
  pub good : List EventLine
  pub fault : Option Refusal

-- after a line without a fault the rest is judged from the lines accepted now; a fault ends the judging, with
-- the line's number and what was accepted before
abbrev pub go_on : ℕ → List EventLine → Result (List EventLine) LineFault → (List EventLine → Judged) → Judged
go_on number before (Ok now) rest = rest now
go_on number before (Err fault) rest = record { good = before; fault = Some (record { line = number; fault = fault }) }

-- each line is judged after those before it; the count says how many these are
abbrev pub judged_behind : Shape → ℕ → List EventLine → List (List ℕ) → Judged
judged_behind shape count before [] = record { good = before; fault = None }
judged_behind shape count before (line ∷ lines) = go_on (count + 1) before (with_reading before (line_reading shape line)) (λ now. judged_behind shape (count + 1) now lines)

-- each of the lines of a source is judged after those before it
abbrev pub judged_lines : Shape → List (List ℕ) → Judged
judged_lines shape lines = judged_behind shape 0 [] lines

-- ---- a source over the limit

-- the lines that end by a line feed, among the parts between line feeds
abbrev pub whole_lines : List (List ℕ) → List (List ℕ)
whole_lines [] = []
whole_lines (part ∷ []) = []
whole_lines (part ∷ next ∷ parts) = part ∷ whole_lines (next ∷ parts)

-- what stands after the last line feed
abbrev pub unfinished_line : List (List ℕ) → List ℕ
unfinished_line [] = []
unfinished_line (part ∷ []) = part
unfinished_line (part ∷ next ∷ parts) = unfinished_line (next ∷ parts)

-- the fault of a source over the limit whose whole lines have none: its unfinished line is too long, or else
-- the source is too large
abbrev pub limit_fault : List ℕ → LineFault
limit_fault line = if nat_lt LINE_LIMIT (length line) then LineTooLong else TooLarge

-- the first fault, which is this one where there was none
abbrev pub first_refusal : Option Refusal → Refusal → Refusal
first_refusal None refusal = refusal
first_refusal (Some first) refusal = first

-- its whole lines are judged, and then the line that follows them
abbrev pub judged_front : Shape → List (List ℕ) → Judged
judged_front shape parts = record {
  good = (judged_lines shape (whole_lines parts)).good;
  fault = Some (first_refusal (judged_lines shape (whole_lines parts)).fault (record { line = length (whole_lines parts) + 1; fault = limit_fault (unfinished_line parts) }));
}

-- ---- all bytes

-- the lines of a source, judged; over the limit only its first bytes count
abbrev pub judged : Shape → List ℕ → Judged
judged shape bytes = if nat_lt FILE_LIMIT (length bytes) then judged_front shape (parts_of line_feed (take FILE_LIMIT bytes)) else judged_lines shape (raw_lines bytes)

-- the end follows where all lines were accepted
abbrev pub ending : Option Refusal → List Message
ending None = message.End ∷ []
ending (Some refusal) = []

-- the messages of a source: those of the lines before its first fault, and then the end where it has none
abbrev pub messages_of : Shape → List ℕ → List Message
messages_of shape bytes = messages_behind [] (judged shape bytes).good ++ ending (judged shape bytes).fault

-- the messages of a source line by line: an entry for each of those lines, in order, which holds its messages, and at
-- last the end where the source has no fault
abbrev pub messages_by_line : Shape → List ℕ → List (List Message)
messages_by_line shape bytes = entries_behind [] (judged shape bytes).good ++ map (λ (m : Message). m ∷ []) (ending (judged shape bytes).fault)

-- the canonical history of the lines before the first fault
abbrev pub history_of_bytes : Shape → List ℕ → List Row
history_of_bytes shape bytes = history_of (judged shape bytes).good
