-- What judging a script answers.
use Rattle.std.specs.Prelude.{ℕ, ◌≡◌, List, Option, None, Some, Result, Ok, Err, Vec}
use Rattle.std.specs.Global.{Global}
use Rattle.cedr_guard.specs.declared.fault.GuardFault.{GuardFault}
use Rattle.cedr_guard.specs.declared.fault.GuardFault.TheVariants as guard_fault
use Rattle.cedr_guard.specs.declared.guard.Guard.{Guard}
use Rattle.cedr_guard.specs.declared.refusal.Refusal.{Refusal}
use Rattle.cedr_guard.specs.declared.state.SourceState.{SourceState}
use Rattle.cedr_guard.specs.Spelt.{State}
use Rattle.cedr_plan.specs.declared.plan.PlanNode.{PlanNode}
use Rattle.cedr_text.specs.declared.event_line.Shape.{Shape}
use Rattle.cedr_text.specs.declared.fault.LineFault.{LineFault}
use Rattle.plan_live.specs.declared.fault.ScriptFault.{ScriptFault}
use Rattle.plan_live.specs.declared.fault.ScriptFault.TheVariants as script_fault
use Rattle.plan_live.specs.Playing.{IsLineFault, GuardsStand}
use Rattle.plan_live.specs.Resumed.{states_so_far, states_in}
use Rattle.plan_live.specs.Scripts.{Accepted, ShapesHaveTypes, Played, played}

-- the lines of a script are all accepted, and the sources come to these states
pub record ComesToStates (nodes : List PlanNode) (bytes : List ℕ) (states : List State) : Type 0 where
  pub shapes : List Shape
  pub types : ShapesHaveTypes nodes shapes
  pub accepted : (played nodes shapes bytes).fault ≡ None
  pub states_are : states ≡ states_so_far nodes (played nodes shapes bytes).lines

-- the first fault of a script
pub record HasScriptFault (nodes : List PlanNode) (bytes : List ℕ) (fault : Refusal) : Type 0 where
  pub shapes : List Shape
  pub types : ShapesHaveTypes nodes shapes
  pub first : (played nodes shapes bytes).fault ≡ Some fault

-- the states, or the script's fault
abbrev pub JudgesScript : Result (Vec SourceState Global) ScriptFault → List PlanNode → List ℕ → Type 0
JudgesScript (Ok states) nodes bytes = ComesToStates nodes bytes (states_in states.items)
JudgesScript (Err (script_fault.Refused refusal)) nodes bytes = HasScriptFault nodes bytes refusal
JudgesScript (Err script_fault.OutOfMemory) nodes bytes = Unit {0}

-- ---- line by line

-- the accepted lines with a line, by its step: `?` adds none
abbrev pub lines_behind : Accepted → Result (Option Accepted) LineFault → Result Accepted LineFault
lines_behind before (Ok None) = Ok before
lines_behind before (Ok (Some now)) = Ok now
lines_behind before (Err fault) = Err fault

-- why a script comes to no states whose line of this number has a fault
abbrev pub script_fault_at : ℕ → GuardFault → ScriptFault
script_fault_at line (guard_fault.Line fault) = script_fault.Refused (record { line = line; fault = fault })
script_fault_at line guard_fault.OutOfMemory = script_fault.OutOfMemory

-- a line, judged: each guard stands for the lines of its node with it, or its fault
abbrev pub JudgesScriptLine : Result (Unit {0}) GuardFault → List PlanNode → List Guard → Result Accepted LineFault → Type 0
JudgesScriptLine (Ok done) nodes guards now = (lines : Accepted) × (now ≡ Ok lines) × GuardsStand nodes guards lines
JudgesScriptLine (Err fault) nodes guards now = IsLineFault fault now

-- all lines, judged: each guard stands for those of its node, or the first fault
abbrev pub JudgesAll : Result (Unit {0}) ScriptFault → List PlanNode → List Guard → Played → Type 0
JudgesAll (Ok done) nodes guards all = (all.fault ≡ None) × GuardsStand nodes guards all.lines
JudgesAll (Err (script_fault.Refused refusal)) nodes guards all = all.fault ≡ Some refusal
JudgesAll (Err script_fault.OutOfMemory) nodes guards all = Unit {0}
