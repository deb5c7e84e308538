-- The numbers of the faults, by which the least one is chosen.
use Rattle.std.specs.Prelude.{ℕ}
use Rattle.cedr_text.specs.declared.fault.LineFault.{LineFault}
use Rattle.cedr_text.specs.declared.fault.LineFault.TheVariants as line

-- the number of a fault, from 1 to 10
abbrev pub line_fault_number : LineFault → ℕ
line_fault_number line.LineTooLong = 1
line_fault_number line.BadForm = 2
line_fault_number line.BadNumber = 3
line_fault_number line.EmptyLife = 4
line_fault_number line.BadField = 5
line_fault_number line.KnownId = 6
line_fault_number line.UnknownId = 7
line_fault_number (line.BadEnd begin end) = 8
line_fault_number (line.BeforeGuarantee sync mark) = 9
line_fault_number line.TooLarge = 10
