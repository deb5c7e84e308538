-- Why a line isn't accepted.
use Rattle.cedr_text.specs.declared.fault.ReadLineFault.{ReadLineFault}
use Rattle.cedr_text.specs.declared.fault.ReadLineFault.TheVariants as read_fault
use Rattle.cedr_guard.specs.declared.fault.GuardFault.{GuardFault}
use Rattle.cedr_guard.specs.declared.fault.GuardFault.TheVariants as guard_fault

-- a line that can't be read isn't accepted
abbrev pub guard_fault_of : ReadLineFault → GuardFault
guard_fault_of (read_fault.Line fault) = guard_fault.Line fault
guard_fault_of read_fault.OutOfMemory = guard_fault.OutOfMemory
