-- What a call that reads a node says by its error.
use Rattle.std.specs.Prelude.{◌≡◌, List, [], ◌∷◌, Option, Some}
use Rattle.std.specs.List.{list_any}
use Rattle.cedr_base.specs.declared.field.FieldType.{FieldType}
use Rattle.serde_json.specs.Data.{Data}
use Rattle.cedr_plan.specs.Nodes.{first_fault, is_bad_column, member_has_two_types}
use Rattle.cedr_plan.specs.declared.fault.PlanKind.{PlanKind}
use Rattle.cedr_plan.specs.declared.fault.PlanKind.TheVariants as kind
use Rattle.cedr_plan.specs.declared.fault.NodeFault.{NodeFault}
use Rattle.cedr_plan.specs.declared.fault.NodeFault.TheVariants as fault
use Rattle.cedr_plan.specs.declared.operator.Member.{Member}

-- the error is the fault that there is. Want of memory says nothing of it
abbrev pub IsNodeFault : Option PlanKind → NodeFault → Type 0
IsNodeFault found (fault.Fault kind) = found ≡ Some kind
IsNodeFault found fault.OutOfMemory = Unit {0}

-- the first fault of these members' columns
abbrev pub column_fault : List FieldType → List Member → Data → Option PlanKind
column_fault types members d = first_fault ((list_any (is_bad_column types d) members, kind.BadColumn) ∷ (list_any (member_has_two_types types d) members, kind.TypeDiffers) ∷ [])
