-- What a line says whose payload still stands in it.
use Rattle.std.specs.Prelude.{◌≡◌, Option, option_map, Result, Ok, Err}
use Rattle.cedr_text.specs.declared.event_line.EventLine.{EventLine}
use Rattle.cedr_text.specs.declared.event_line.EventLine.TheVariants as line
use Rattle.cedr_text.specs.declared.event_text.EventText.{EventText}
use Rattle.cedr_text.specs.declared.event_text.EventText.TheVariants as text
use Rattle.cedr_text.specs.declared.fault.LineFault.{LineFault}
use Rattle.cedr_text.specs.declared.fault.ReadLineFault.{ReadLineFault}
use Rattle.cedr_text.specs.declared.fault.ReadLineFault.TheVariants as read_fault

-- the same as an event line
abbrev pub as_line : EventText → EventLine
as_line (text.Insert id row) = line.Insert id row
as_line (text.Retract id end) = line.Retract id end
as_line (text.Revise id row) = line.Revise id row
as_line (text.Promise time) = line.Promise time

-- the same of a reading: its event as an event line, or its fault
abbrev pub as_reading : Result EventText LineFault → Result EventLine LineFault
as_reading (Ok event) = Ok (as_line event)
as_reading (Err fault) = Err fault

-- what the code answers is the reading, unless memory ran out
abbrev pub ReadsText : Result (Option EventText) ReadLineFault → Result (Option EventLine) LineFault → Type 0
ReadsText (Ok event) read = read ≡ Ok (option_map as_line event)
ReadsText (Err (read_fault.Line fault)) read = read ≡ Err fault
ReadsText (Err read_fault.OutOfMemory) read = Unit {0}
