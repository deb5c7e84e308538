-- What `save` and `resume` give of a plan and a script, and why they are refused.
use Rattle.std.specs.Prelude.{ℕ, ◌≡◌, List, take, Option, None, Some}
use Rattle.cedr_guard.specs.declared.refusal.Refusal.{Refusal}
use Rattle.cedr_guard.specs.Spelt.{State}
use Rattle.cedr_plan.specs.declared.plan.PlanNode.{PlanNode}
use Rattle.cedr_save.specs.Checkpoints.{plan_sources, checkpoint_text, IsCheckpoint}
use Rattle.cedr_save.specs.Refusals.{RefusesBytes}
use Rattle.cedr_save.specs.Saving.{first_unsaved}
use Rattle.cedr_text.specs.declared.event_line.Shape.{Shape}
use Rattle.plan_live.specs.Judged.{ComesToStates, HasScriptFault}
use Rattle.plan_live.specs.Resumed.{lines_from}
use Rattle.plan_live.specs.Scripts.{ShapesHaveTypes, played_after}
use Rattle.plan_live.specs.SoFar.{texts_now}
use Rattle.told_faults.specs.FaultTexts.{refusal_text}

-- the plan can be saved
abbrev pub CanSavePlan : List PlanNode → Type 0
CanSavePlan nodes = first_unsaved 0 nodes ≡ None

-- ---- a script that is saved

-- the lines of the script are all accepted, and the text is that of a checkpoint of the states that they come to
pub record SavesScript (nodes : List PlanNode) (script text : List ℕ) : Type 0 where
  pub can : CanSavePlan nodes
  pub states : List State
  pub comes : ComesToStates nodes script states
  pub text_is : text ≡ checkpoint_text (plan_sources nodes) states

-- a script of this name that isn't accepted, and its first fault
pub record RefusesSaved (name script : List ℕ) (nodes : List PlanNode) (said : List ℕ) : Type 0 where
  pub can : CanSavePlan nodes
  pub fault : Refusal
  pub first : HasScriptFault nodes script fault
  pub said_is : said ≡ refusal_text name fault

-- ---- a script that goes on from a checkpoint

-- the plan can be saved, and the bytes are a checkpoint of it, which spells these states
pub record ResumesFrom (nodes : List PlanNode) (checkpoint : List ℕ) (states : List State) : Type 0 where
  pub can : CanSavePlan nodes
  pub spelt : IsCheckpoint (plan_sources nodes) states checkpoint

-- What all `?` of a script show that goes on from a checkpoint, and its fault: at each one the rows and the mark of the plan as
-- it stands, over the histories and the guarantees of the checkpoint's states with the script's lines so far.
pub record ResumesScript (nodes : List PlanNode) (checkpoint script text : List ℕ) (fault : Option Refusal) : Type 0 where
  pub states : List State
  pub from : ResumesFrom nodes checkpoint states
  pub shapes : List Shape
  pub types : ShapesHaveTypes nodes shapes
  pub fault_is : fault ≡ (played_after nodes shapes (lines_from nodes states) script).fault
  pub text_is : text ≡ texts_now nodes (played_after nodes shapes (lines_from nodes states) script).asks

-- what its first `?` show
pub record ResumesSoFar (nodes : List PlanNode) (checkpoint script text : List ℕ) : Type 0 where
  pub states : List State
  pub from : ResumesFrom nodes checkpoint states
  pub shapes : List Shape
  pub types : ShapesHaveTypes nodes shapes
  pub count : ℕ
  pub text_is : text ≡ texts_now nodes (take count (played_after nodes shapes (lines_from nodes states) script).asks)

-- a script of this name that isn't accepted behind the checkpoint, and its first fault
pub record RefusesResumed (name checkpoint script : List ℕ) (nodes : List PlanNode) (text said : List ℕ) : Type 0 where
  pub fault : Refusal
  pub resumed : ResumesScript nodes checkpoint script text (Some fault)
  pub said_is : said ≡ refusal_text name fault

-- the plan can be saved, and the bytes aren't a checkpoint of it, for this line
pub record RefusesBytesOf (nodes : List PlanNode) (checkpoint : List ℕ) (line : ℕ) : Type 0 where
  pub can : CanSavePlan nodes
  pub refused : RefusesBytes (plan_sources nodes) checkpoint line
