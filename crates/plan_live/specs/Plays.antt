-- What playing a script answers.
use Rattle.std.specs.Prelude.{ℕ, ◌≡◌, List, [], Option, Result, Ok, Err}
use Rattle.std.specs.Io.KnownBytes.{Appends}
use Rattle.cedr_guard.specs.declared.refusal.Refusal.{Refusal}
use Rattle.cedr_io.specs.Asked.{AppendsFront}
use Rattle.cedr_io.specs.declared.fault.OutsideFault.{OutsideFault}
use Rattle.cedr_plan.specs.declared.plan.PlanNode.{PlanNode}
use Rattle.cedr_text.specs.declared.event_line.Shape.{Shape}
use Rattle.plan_live.specs.Scripts.{Accepted, ShapesHaveTypes, no_lines, played_after}
use Rattle.plan_live.specs.Shown.{AreShown, AreShownFirst}

-- what all `?` of a script show after accepted lines, and its fault
pub record IsPlayedAfter (nodes : List PlanNode) (before : Accepted) (bytes : List ℕ) (text : List ℕ) (fault : Option Refusal) : Type 0 where
  pub shapes : List Shape
  pub types : ShapesHaveTypes nodes shapes
  pub shown : AreShown nodes [] (played_after nodes shapes before bytes).asks text
  pub fault_is : fault ≡ (played_after nodes shapes before bytes).fault

-- what the first `?` of it show
pub record IsPlayedFirst (nodes : List PlanNode) (before : Accepted) (bytes : List ℕ) (text : List ℕ) : Type 0 where
  pub shapes : List Shape
  pub types : ShapesHaveTypes nodes shapes
  pub shown : AreShownFirst nodes (played_after nodes shapes before bytes).asks text

-- the script's fault, where all was written; or else a front was written of what its first `?` show
abbrev pub PlaysAfter : Result (Option Refusal) OutsideFault → List PlanNode → Accepted → List ℕ → Option (List ℕ) → Option (List ℕ) → Type 0
PlaysAfter (Ok fault) nodes before bytes old new = (text : List ℕ) × IsPlayedAfter nodes before bytes text fault × Appends old new text
PlaysAfter (Err outside) nodes before bytes old new = (text : List ℕ) × IsPlayedFirst nodes before bytes text × AppendsFront old new text

-- the same where no line was accepted before
abbrev pub IsPlayed : List PlanNode → List ℕ → List ℕ → Option Refusal → Type 0
IsPlayed nodes bytes text fault = IsPlayedAfter nodes (no_lines nodes) bytes text fault

abbrev pub IsPlayedSoFar : List PlanNode → List ℕ → List ℕ → Type 0
IsPlayedSoFar nodes bytes text = IsPlayedFirst nodes (no_lines nodes) bytes text

abbrev pub Plays : Result (Option Refusal) OutsideFault → List PlanNode → List ℕ → Option (List ℕ) → Option (List ℕ) → Type 0
Plays result nodes bytes old new = PlaysAfter result nodes (no_lines nodes) bytes old new
