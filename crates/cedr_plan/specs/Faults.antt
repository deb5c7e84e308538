-- The numbers of the faults, by which the least one of a node is chosen.
use Rattle.std.specs.Prelude.{ℕ}
use Rattle.cedr_expr.specs.declared.fault.TypeFault.{TypeFault}
use Rattle.cedr_expr.specs.declared.fault.TypeFault.TheVariants as types
use Rattle.cedr_plan.specs.declared.fault.PlanKind.{PlanKind}
use Rattle.cedr_plan.specs.declared.fault.PlanKind.TheVariants as fault

-- the number of a fault, from 1 to 14
abbrev pub plan_fault_number : PlanKind → ℕ
plan_fault_number fault.TooLong = 1
plan_fault_number fault.BadJson = 2
plan_fault_number fault.MissingPart = 3
plan_fault_number fault.UnknownOp = 4
plan_fault_number fault.TooMany = 5
plan_fault_number fault.BadNumber = 6
plan_fault_number fault.BadLevel = 7
plan_fault_number fault.TwiceNamed = 8
plan_fault_number fault.UnknownNode = 9
plan_fault_number fault.TooWide = 10
plan_fault_number fault.BadColumn = 11
plan_fault_number fault.TypeDiffers = 12
plan_fault_number fault.NotOneOutput = 13
plan_fault_number fault.Unused = 14

-- the kind of a fault of types
abbrev pub kind_of_types : TypeFault → PlanKind
kind_of_types (types.BadColumn place) = fault.BadColumn
kind_of_types (types.TypeDiffers place) = fault.TypeDiffers
