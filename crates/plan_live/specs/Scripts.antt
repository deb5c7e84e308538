-- The lines of a script, judged one after the other: each is `?`, or the name of a source, a comma and an event line,
-- which is judged after the earlier lines of that source.
use Rattle.std.specs.Prelude.{ℕ, ◌+◌, ◌==◌, ◌&&◌, Bool, List, [], ◌∷◌, length, map, slice_index_or, slice_set, take, codes, nat_lt, if◌then◌else◌, Option, None, Some, option_and_then, Result, Ok, Err}
use Rattle.std.specs.Str.{bytes_eq}
use Rattle.cedr_text.specs.declared.event_line.EventLine.{EventLine}
use Rattle.cedr_text.specs.declared.event_line.Shape.{Shape}
use Rattle.cedr_text.specs.declared.event_line.Shape.TheVariants.{AnyText}
use Rattle.cedr_text.specs.declared.fault.LineFault.{LineFault}
use Rattle.cedr_text.specs.declared.fault.LineFault.TheVariants.{LineTooLong, BadForm}
use Rattle.cedr_text.specs.declared.lines.TheConstants.{LINE_LIMIT}
use Rattle.cedr_text.specs.Lines.{raw_lines, without_return}
use Rattle.cedr_base.specs.Bytes.{comma, line_feed}
use Rattle.cedr_text.specs.Parts.{parts_of}
use Rattle.cedr_text.specs.Reading.{reading}
use Rattle.cedr_guard.specs.declared.refusal.Refusal.{Refusal}
use Rattle.cedr_guard.specs.declared.refusal.TheConstants.{FILE_LIMIT}
use Rattle.cedr_guard.specs.Sources.{with_reading, whole_lines, unfinished_line, first_refusal, limit_fault}
use Rattle.node_laws.specs.Lists.{Lists}
use Rattle.cedr_guard.specs.Messages.{messages_behind}
use Rattle.cedr_plan.specs.declared.plan.PlanNode.{PlanNode}
use Rattle.cedr_text.specs.Shapes.{ShapeHasTypes}
use Rattle.cedr_plan.specs.Places.{is_source}

-- ---- the parts of a line

-- what stands before the first comma, with one byte more before it, and what stands after the comma
abbrev pub with_byte : ℕ → Option (List ℕ × List ℕ) → Option (List ℕ × List ℕ)
with_byte b None = None
with_byte b (Some cut) = Some (b ∷ cut.0, cut.1)

-- what stands before the first comma, and what stands after it, where there is one
abbrev pub cut_at_comma : List ℕ → Option (List ℕ × List ℕ)
cut_at_comma [] = None
cut_at_comma (b ∷ bytes) = if b == comma then Some ([], bytes) else with_byte b (cut_at_comma bytes)

-- the place of the source of a name, of the nodes from one on
abbrev pub named_from : ℕ → List PlanNode → List ℕ → Option ℕ
named_from place [] name = None
named_from place (n ∷ nodes) name = if is_source n.kind && bytes_eq n.name name then Some place else named_from (place + 1) nodes name

-- what stands behind the comma, where something does, and the place of its source
abbrev pub event_at : List ℕ → ℕ → Option (ℕ × List ℕ)
event_at [] place = None
event_at (b ∷ bytes) place = Some (place, b ∷ bytes)

-- the place of the source whose event line this is, and what stands behind its name and comma, where there are such ones
abbrev pub source_event : List PlanNode → List ℕ → Option (ℕ × List ℕ)
source_event nodes line = option_and_then (λ (cut : List ℕ × List ℕ). option_and_then (event_at cut.1) (named_from 0 nodes cut.0)) (cut_at_comma line)

-- ---- the accepted lines

-- the accepted lines of each node, in the order of the plan
abbrev pub Accepted : Type 0
Accepted = List (List EventLine)

-- the lines of the node at a place
abbrev pub lines_at : Accepted → ℕ → List EventLine
lines_at before place = slice_index_or before place []

-- no line was accepted
abbrev pub no_lines : List PlanNode → Accepted
no_lines nodes = map (λ (n : PlanNode). []) nodes

-- each node has a shape of its types
abbrev pub ShapesHaveTypes : List PlanNode → List Shape → Type 0
ShapesHaveTypes [] [] = Unit {0}
ShapesHaveTypes [] (s ∷ shapes) = ⊥
ShapesHaveTypes (n ∷ nodes) [] = ⊥
ShapesHaveTypes (n ∷ nodes) (s ∷ shapes) = ShapeHasTypes s n.types.items × ShapesHaveTypes nodes shapes

-- the accepted lines with those of one node now, or the line's fault
abbrev pub with_lines : Accepted → ℕ → Result (List EventLine) LineFault → Result Accepted LineFault
with_lines before place (Ok now) = Ok (slice_set before place now)
with_lines before place (Err fault) = Err fault

-- an event line of the source at a place, after its earlier lines. Where nothing stands after the comma there is none.
abbrev pub with_event_line : List Shape → Accepted → ℕ → List ℕ → Result Accepted LineFault
with_event_line shapes before place [] = Err BadForm
with_event_line shapes before place (b ∷ bytes) = with_lines before place (with_reading (lines_at before place) (reading (slice_index_or shapes place AnyText) (b ∷ bytes)))

-- the same of the source that was found for a name, and a fault where there is none
abbrev pub with_named : List Shape → Accepted → Option ℕ → List ℕ → Result Accepted LineFault
with_named shapes before None bytes = Err BadForm
with_named shapes before (Some place) bytes = with_event_line shapes before place bytes

-- the same of a line that was cut at its first comma, and a fault where there is none
abbrev pub with_cut : List PlanNode → List Shape → Accepted → Option (List ℕ × List ℕ) → Result Accepted LineFault
with_cut nodes shapes before None = Err BadForm
with_cut nodes shapes before (Some cut) = with_named shapes before (named_from 0 nodes cut.0) cut.1

-- a line that isn't `?`, after the accepted ones; an empty line says nothing
abbrev pub with_line : List PlanNode → List Shape → Accepted → List ℕ → Result Accepted LineFault
with_line nodes shapes before [] = Ok before
with_line nodes shapes before (b ∷ bytes) = with_cut nodes shapes before (cut_at_comma (b ∷ bytes))

-- ---- one line after the other

-- a script: at each `?` before the first line that has a fault the lines that were accepted until then, that line's
-- number and fault, and the lines that were accepted before it, or in all
pub record Played : Type 0 where
  pub asks : List Accepted
  pub fault : Option Refusal
  pub lines : Accepted

-- a `?` and then the rest: these lines were accepted until then
abbrev pub asked : Accepted → Played → Played
asked before rest = record { asks = before ∷ rest.asks; fault = rest.fault; lines = rest.lines }

-- a line with a fault: nothing after it counts
abbrev pub stopped : ℕ → Accepted → LineFault → Played
stopped number before fault = record { asks = []; fault = Some (record { line = number; fault = fault }); lines = before }

-- a line that is accepted, and then the rest; or one with a fault
abbrev pub play_on : ℕ → Accepted → Result Accepted LineFault → (Accepted → Played) → Played
play_on number before (Ok now) rest = rest now
play_on number before (Err fault) rest = stopped number before fault

-- the line is `?`
abbrev pub is_question : List ℕ → Bool
is_question line = bytes_eq line (codes "?")

-- each line is judged after those before it, of which there were so many
abbrev pub played_behind : List PlanNode → List Shape → ℕ → Accepted → List (List ℕ) → Played
played_behind nodes shapes count before [] = record { asks = []; fault = None; lines = before }
played_behind nodes shapes count before (line ∷ lines) =
    if nat_lt LINE_LIMIT (length line) then stopped (count + 1) before LineTooLong
    else if is_question (without_return line) then asked before (played_behind nodes shapes (count + 1) before lines)
    else play_on (count + 1) before (with_line nodes shapes before (without_return line)) (λ now. played_behind nodes shapes (count + 1) now lines)

-- a script over the limit, after accepted lines: its whole lines are judged, and then the line that follows them
abbrev pub front_after : List PlanNode → List Shape → Accepted → List (List ℕ) → Played
front_after nodes shapes before parts = record (played_behind nodes shapes 0 before (whole_lines parts)) {
  fault = Some (first_refusal (played_behind nodes shapes 0 before (whole_lines parts)).fault (record { line = length (whole_lines parts) + 1; fault = limit_fault (unfinished_line parts) }));
}

-- the lines of a script from the first one on, after accepted lines. Over the limit only the first bytes count
abbrev pub played_after : List PlanNode → List Shape → Accepted → List ℕ → Played
played_after nodes shapes before bytes = if nat_lt FILE_LIMIT (length bytes) then front_after nodes shapes before (parts_of line_feed (take FILE_LIMIT bytes)) else played_behind nodes shapes 0 before (raw_lines bytes)

-- the same where no line was accepted before
abbrev pub played_lines : List PlanNode → List Shape → List (List ℕ) → Played
played_lines nodes shapes lines = played_behind nodes shapes 0 (no_lines nodes) lines

abbrev pub played_front : List PlanNode → List Shape → List (List ℕ) → Played
played_front nodes shapes parts = front_after nodes shapes (no_lines nodes) parts

abbrev pub played : List PlanNode → List Shape → List ℕ → Played
played nodes shapes bytes = played_after nodes shapes (no_lines nodes) bytes

-- ---- messages

-- the messages of the accepted lines of each node: no source has ended
abbrev pub messages_so_far : Accepted → Lists
messages_so_far before = map (messages_behind []) before
