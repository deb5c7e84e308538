-- What `history` keeps of the lines of a file.
use Rattle.std.specs.Prelude.{ℕ, ◌≡◌, ◌+◌, Bool, true, false, List, [], ◌∷◌, length, map, nat_lt, if◌then◌else◌, None, Some, Result, Ok, Err, Vec}
use Rattle.std.specs.Global.{Global}
use Rattle.cedr_base.specs.declared.row.Row.{Row}
use Rattle.cedr_base.specs.declared.field.Field.{Field}
use Rattle.cedr_text.specs.declared.event_line.EventLine.{EventLine}
use Rattle.cedr_text.specs.declared.event_line.Shape.TheVariants.{AnyText}
use Rattle.cedr_text.specs.declared.fault.LineFault.{LineFault}
use Rattle.cedr_guard.specs.declared.fault.GuardFault.{GuardFault}
use Rattle.cedr_guard.specs.declared.fault.GuardFault.TheVariants as guard_fault
use Rattle.cedr_base.specs.declared.interval.Interval.{Interval}
use Rattle.cedr_guard.specs.History.{rows_among}
use Rattle.cedr_guard.specs.Sources.{judged, Judged, judged_behind, whole_lines, unfinished_line, first_refusal, limit_fault}
use Rattle.cedr_guard.specs.Standing.{StandsFor, row_payload}
use Rattle.cedr_commands.specs.Answers.{GivesHistory}
use Rattle.cedr_commands.specs.declared.events.Events.{Events}
use Rattle.cedr_commands.specs.declared.refusal.JudgeFault.{JudgeFault}
use Rattle.cedr_commands.specs.declared.refusal.JudgeFault.TheVariants as judge_fault

-- the valid interval of each event of these lines, and its payload
pub record AreEventsOf (events : Events) (lines : List EventLine) : Type 0 where
  pub judge : StandsFor events.judge lines
  pub payloads : events.payloads.items ≡ map row_payload (rows_among lines)

-- the rows with these valid intervals and payloads, without the empty ones
abbrev pub living_rows : List Interval → List (List Field) → List Row
living_rows [] payloads = []
living_rows (i ∷ intervals) [] = []
living_rows (i ∷ intervals) (payload ∷ payloads) =
    if nat_lt i.begin i.end then record { end = i.end; begin = i.begin; payload = payload } ∷ living_rows intervals payloads
    else living_rows intervals payloads

-- one more line of a file after accepted ones: the events of these lines with it, or its fault
abbrev pub TakesEvent : Result (Unit {0}) GuardFault → Events → Result (List EventLine) LineFault → Type 0
TakesEvent (Ok done) events lines = (now : List EventLine) × (lines ≡ Ok now) × AreEventsOf events now
TakesEvent (Err (guard_fault.Line line)) events lines = lines ≡ Err line
TakesEvent (Err guard_fault.OutOfMemory) events lines = Unit {0}

-- a whole file: the events of its lines, or the first line that has a fault
abbrev pub JudgesFile : Result Events JudgeFault → Judged → Type 0
JudgesFile (Ok events) file = (file.fault ≡ None) × AreEventsOf events file.good
JudgesFile (Err (judge_fault.Refused refusal)) file = file.fault ≡ Some refusal
JudgesFile (Err judge_fault.OutOfMemory) file = Unit {0}

-- the parts of a file between its line feeds, judged after so many lines: all of them, or those of the first bytes of a
-- file over the limit
abbrev pub parts_behind : Bool → ℕ → List EventLine → List (List ℕ) → Judged
parts_behind false count before parts = judged_behind AnyText count before parts
parts_behind true count before parts = record {
  good = (judged_behind AnyText count before (whole_lines parts)).good;
  fault = Some (first_refusal (judged_behind AnyText count before (whole_lines parts)).fault (record { line = count + length (whole_lines parts) + 1; fault = limit_fault (unfinished_line parts) }));
}

-- the text of the canonical history of a file, or its first fault
abbrev pub AnswersHistory : Result (Vec ℕ Global) JudgeFault → List ℕ → Type 0
AnswersHistory (Ok text) bytes = GivesHistory bytes text.items
AnswersHistory (Err (judge_fault.Refused refusal)) bytes = (judged AnyText bytes).fault ≡ Some refusal
AnswersHistory (Err judge_fault.OutOfMemory) bytes = Unit {0}
