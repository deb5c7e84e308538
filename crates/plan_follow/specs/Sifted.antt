-- The lines of a script, taken one after the other, where those that aren't accepted are left out.
use Rattle.std.specs.Prelude.{ℕ, ◌≡◌, ◌+◌, ◌≤◌, List, [], ◌∷◌, ◌++◌, length, map, slice_index_or, slice_set, if◌then◌else◌, Option, None, Some, Result, Ok, Err}
use Rattle.cedr_base.specs.Bytes.{line_feed}
use Rattle.cedr_guard.specs.Judging.{fault_behind}
use Rattle.cedr_guard.specs.Messages.{line_messages}
use Rattle.cedr_guard.specs.declared.refusal.Refusal.{Refusal}
use Rattle.cedr_plan.specs.declared.plan.PlanNode.{PlanNode}
use Rattle.cedr_script.specs.Cutting.{script_answers}
use Rattle.cedr_text.specs.Reading.{reading}
use Rattle.cedr_text.specs.declared.event_line.EventLine.{EventLine}
use Rattle.cedr_text.specs.declared.event_line.Shape.{Shape}
use Rattle.cedr_text.specs.declared.event_line.Shape.TheVariants.{AnyText}
use Rattle.cedr_text.specs.declared.fault.LineFault.{LineFault}
use Rattle.cedr_text.specs.declared.fault.LineFault.TheVariants.{LineTooLong, BadForm}
use Rattle.node_laws.specs.Lists.{Lists, with_more}
use Rattle.plan_live.specs.Scripts.{Accepted, lines_at, source_event, is_question, messages_so_far}
use Rattle.source_memory.specs.Remembered.{remembered_lines, kept_with}

-- What lines come to: what is remembered of the accepted lines of each node, all messages that they became, how many lines there
-- were, and the number and the fault of each that isn't accepted.
pub record Sifted : Type 0 where
  pub kept : Accepted
  pub sent : Lists
  pub count : ℕ
  pub refusals : List Refusal

-- what is remembered of accepted lines, and nothing where there are none
abbrev pub left_of : List EventLine → List EventLine
left_of [] = []
left_of (line ∷ lines) = remembered_lines (line ∷ lines)

-- before the first line of a script, behind accepted lines of the plan's nodes
abbrev pub sifted_behind : Accepted → Sifted
sifted_behind before = record { kept = map left_of before; sent = messages_so_far before; count = 0; refusals = [] }

-- ---- one line

-- a line that says nothing
abbrev pub passed_over : Sifted → Sifted
passed_over s = record { kept = s.kept; sent = s.sent; count = s.count + 1; refusals = s.refusals }

-- a line that isn't accepted changes nothing else
abbrev pub line_left_out : Sifted → LineFault → Sifted
line_left_out s fault = record { kept = s.kept; sent = s.sent; count = s.count + 1; refusals = s.refusals ++ record { line = s.count + 1; fault = fault } ∷ [] }

-- an event line of the node at a place that is accepted
abbrev pub line_taken : Sifted → ℕ → EventLine → Sifted
line_taken s place event = record {
  kept = slice_set s.kept place (kept_with (lines_at s.kept place) event);
  sent = with_more s.sent place (line_messages (lines_at s.kept place) event);
  count = s.count + 1;
  refusals = s.refusals;
}

-- an event line with this fault, if it has one
abbrev pub with_judged : Sifted → ℕ → EventLine → Option LineFault → Sifted
with_judged s place event None = line_taken s place event
with_judged s place event (Some fault) = line_left_out s fault

-- what stands behind the name of the source at a place, judged by what is remembered of that source
abbrev pub with_read : Sifted → ℕ → Result (Option EventLine) LineFault → Sifted
with_read s place (Ok None) = passed_over s
with_read s place (Ok (Some event)) = with_judged s place event (fault_behind (lines_at s.kept place) event)
with_read s place (Err fault) = line_left_out s fault

-- the same where the source was found, and a fault where it wasn't
abbrev pub with_source : List Shape → Sifted → Option (ℕ × List ℕ) → Sifted
with_source shapes s None = line_left_out s BadForm
with_source shapes s (Some found) = with_read s found.0 (reading (slice_index_or shapes found.0 AnyText) found.1)

-- a line that isn't `?`; an empty one says nothing
abbrev pub with_said : List PlanNode → List Shape → Sifted → List ℕ → Sifted
with_said nodes shapes s [] = passed_over s
with_said nodes shapes s (b ∷ line) = with_source shapes s (source_event nodes (b ∷ line))

-- a line, or one that is too long; `?` says nothing
abbrev pub with_answer : List PlanNode → List Shape → Sifted → Option (List ℕ) → Sifted
with_answer nodes shapes s None = line_left_out s LineTooLong
with_answer nodes shapes s (Some line) = if is_question line then passed_over s else with_said nodes shapes s line

-- ---- one line after the other

abbrev pub sifted : List PlanNode → List Shape → Sifted → List (Option (List ℕ)) → Sifted
sifted nodes shapes s [] = s
sifted nodes shapes s (answer ∷ answers) = sifted nodes shapes (with_answer nodes shapes s answer) answers

-- these come first of the lines of a script that begins with these bytes, whatever may still come
abbrev pub ComeFirst : List ℕ → List (Option (List ℕ)) → Type 0
ComeFirst bytes answers = (more : List ℕ) → (others : List (Option (List ℕ))) × (script_answers (bytes ++ more) ≡ answers ++ others)

-- and none that ended is missing: a line feed that came next would end one line more at most
pub record AreWhole (bytes : List ℕ) (answers : List (Option (List ℕ))) : Type 0 where
  pub first : ComeFirst bytes answers
  pub all : length (script_answers (bytes ++ line_feed ∷ [])) ≤ length answers + 1
