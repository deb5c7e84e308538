-- What a line of a script says, whatever lines were accepted before it.
use Rattle.std.specs.Prelude.{ℕ, ◌≡◌, ◌<◌, List, length, slice_index_or, Option, None, Some, Result, Ok, Err}
use Rattle.cedr_guard.specs.Sources.{with_reading}
use Rattle.cedr_net.specs.Flows.{IsSourceAt}
use Rattle.cedr_plan.specs.declared.plan.PlanNode.{PlanNode}
use Rattle.cedr_text.specs.Reading.{reading}
use Rattle.cedr_text.specs.declared.event_line.Shape.{Shape}
use Rattle.cedr_text.specs.declared.event_line.Shape.TheVariants.{AnyText}
use Rattle.cedr_text.specs.declared.fault.LineFault.{LineFault}
use Rattle.plan_live.specs.declared.line.ScriptLine.{ScriptLine}
use Rattle.plan_live.specs.declared.line.ScriptLine.TheVariants as says
use Rattle.plan_live.specs.Scripts.{Accepted, lines_at, with_lines}
use Rattle.plan_live.specs.Playing.{accepting, step_of}

-- the line does this behind any accepted lines
abbrev pub AlwaysSteps : List PlanNode → List ℕ → (List Shape → Accepted → Result (Option Accepted) LineFault) → Type 0
AlwaysSteps nodes line step = (shapes : List Shape) (before : Accepted) → step_of nodes shapes before line ≡ step shapes before

-- an event line of the source at a place, which is judged behind the earlier lines of that source
abbrev pub event_step : ℕ → List ℕ → List Shape → Accepted → Result (Option Accepted) LineFault
event_step place event shapes before = accepting (with_lines before place (with_reading (lines_at before place) (reading (slice_index_or shapes place AnyText) event)))

-- the line is an event line of the source at a place
pub record IsScriptEvent (nodes : List PlanNode) (line : List ℕ) (place : ℕ) (event : List ℕ) : Type 0 where
  pub within : place < length nodes
  pub source : IsSourceAt nodes place
  pub steps : AlwaysSteps nodes line (event_step place event)

-- the line says nothing, asks for the rows, or is an event line of a source; or it has this fault
abbrev pub SaysLine : Result ScriptLine LineFault → List PlanNode → List ℕ → Type 0
SaysLine (Ok says.Nothing) nodes line = AlwaysSteps nodes line (λ shapes before. Ok (Some before))
SaysLine (Ok says.Question) nodes line = AlwaysSteps nodes line (λ shapes before. Ok None)
SaysLine (Ok (says.Event place event)) nodes line = IsScriptEvent nodes line place event.now
SaysLine (Err fault) nodes line = AlwaysSteps nodes line (λ shapes before. Err fault)
