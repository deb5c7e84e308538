-- What is reported on standard error of a file that isn't accepted.
use Rattle.std.specs.Prelude.{ℕ, List, [], ◌∷◌, ◌++◌, codes, decimal}
use Rattle.cedr_guard.specs.declared.fault.GuardFault.{GuardFault}
use Rattle.cedr_guard.specs.declared.fault.GuardFault.TheVariants as guard_fault
use Rattle.cedr_plan.specs.Faults.{plan_fault_number}
use Rattle.cedr_plan.specs.declared.fault.PlanKind.{PlanKind}
use Rattle.cedr_base.specs.Bytes.{line_feed}
use Rattle.cedr_commands.specs.declared.refusal.JudgeFault.{JudgeFault}
use Rattle.cedr_commands.specs.declared.refusal.JudgeFault.TheVariants as judge_fault

-- the number of a plan's fault, and of the node that has it
abbrev pub plan_fault_text : PlanKind → ℕ → List ℕ
plan_fault_text kind node = codes "plan fault " ++ (decimal (plan_fault_number kind) ++ (codes " node " ++ (decimal node ++ line_feed ∷ [])))

-- the number of the fault of a plan that can't be saved, and of the first node for which it can't
abbrev pub unsaved_text : ℕ → List ℕ
unsaved_text node = codes "plan fault 15 node " ++ (decimal node ++ line_feed ∷ [])

-- the line at which bytes aren't a checkpoint
abbrev pub checkpoint_fault_text : ℕ → List ℕ
checkpoint_fault_text line = codes "checkpoint line " ++ (decimal line ++ line_feed ∷ [])

-- the fault of the line with this number
abbrev pub fault_at : ℕ → GuardFault → JudgeFault
fault_at line (guard_fault.Line fault) = judge_fault.Refused (record { line = line; fault = fault })
fault_at line guard_fault.OutOfMemory = judge_fault.OutOfMemory
