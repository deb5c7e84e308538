-- How a command ends that follows a script, and what it leaves.
use Rattle.std.specs.Prelude.{ℕ, ◌≡◌, ◌≢◌, ◌<◌, ◌⊎◌, Bool, true, false, List, [], ◌∷◌, ◌++◌, Option, None, Some, Result, Ok, Err, Vec}
use Rattle.std.specs.Global.{Global}
use Rattle.cedr_commands.specs.Answers.{IsPlanOf}
use Rattle.cedr_commands.specs.Commands.{Command, named_files}
use Rattle.cedr_commands.specs.Ending.{Ends}
use Rattle.cedr_commands.specs.Outcomes.{status_of, outcome_text, TellsLack}
use Rattle.cedr_commands.specs.Resuming.{CanSavePlan}
use Rattle.cedr_commands.specs.Seen.{FilesSeen, SinkSeen, NoneRose, SinkGains}
use Rattle.cedr_commands.specs.declared.command.Job.{Job}
use Rattle.cedr_commands.specs.declared.command.Job.TheVariants.{Follow, FollowFrom}
use Rattle.cedr_commands.specs.declared.outcome.Outcome.{Outcome}
use Rattle.cedr_commands.specs.declared.outcome.Outcome.TheVariants as outcome
use Rattle.cedr_commands.specs.declared.status.Status.{Status}
use Rattle.cedr_commands.specs.declared.status.Status.TheVariants as status
use Rattle.cedr_guard.specs.Spelt.{State}
use Rattle.cedr_plan.specs.declared.plan.PlanNode.{PlanNode}
use Rattle.cedr_save.specs.Checkpoints.{plan_sources, IsCheckpoint}
use Rattle.plan_answer.specs.Sources.{AreTold}
use Rattle.plan_follow.specs.Following.{OutsideSeen, FollowsOn, FollowsBehind}
use Rattle.plan_follow.specs.Sifted.{sifted_behind}
use Rattle.plan_live.specs.Resumed.{lines_from}
use Rattle.plan_live.specs.Scripts.{no_lines}
use Rattle.plan_follow.specs.declared.fault.FollowFault.{FollowFault}
use Rattle.plan_follow.specs.declared.fault.FollowFault.TheVariants as follow_fault

-- ---- behind an opened plan

-- What is known of a script of which this is left, of the output and of the error stream. The order of reads and writes of real
-- files isn't.
abbrev pub script_outside : Option (List ℕ) → SinkSeen → SinkSeen → OutsideSeen
script_outside rest out err = record { rest = rest; written = out.written; log = None; told_faults = err.faults; told = err.written }

-- The script is followed over a plan of these nodes: from its first line on, or behind the states that the checkpoint spells.
abbrev pub FollowsScript : Result Bool FollowFault → Command → List PlanNode → FilesSeen → OutsideSeen → OutsideSeen → Type 0
FollowsScript result command nodes files old new = follows command.job where
  follows : Job → Type 0
  follows Follow = FollowsOn result nodes (sifted_behind (no_lines nodes)) [] command.script old new
  follows FollowFrom = (states : List State) × ((told : List ℕ → List ℕ) → AreTold files.content told (command.checkpoint ∷ []) → IsCheckpoint (plan_sources nodes) states (told command.checkpoint)) × FollowsBehind result nodes (sifted_behind (lines_from nodes states)) command.script old new
  follows job = ⊥

-- how the command went, by what following answered: what is said of faulty lines was told as they came
abbrev pub GoesAs : Result Bool FollowFault → Outcome → Type 0
GoesAs (Ok false) went = went ≡ outcome.Done
GoesAs (Ok true) went = (said : Vec ℕ Global) × (went ≡ outcome.Events said) × (said.items ≡ [])
GoesAs (Err follow_fault.Read) went = went ≡ outcome.Read
GoesAs (Err follow_fault.Write) went = went ≡ outcome.Write
GoesAs (Err follow_fault.OutOfMemory) went = went ≡ outcome.OutOfMemory

-- A count rose exactly where a read of the script was refused, or a write of the answer.
abbrev pub CountsFollowed : Result Bool FollowFault → FilesSeen → FilesSeen → SinkSeen → SinkSeen → Type 0
CountsFollowed (Ok faulty) files files' out out' = NoneRose files files' out out'
CountsFollowed (Err follow_fault.Read) files files' out out' = (files.faults < files'.faults) × (out'.faults ≡ out.faults)
CountsFollowed (Err follow_fault.Write) files files' out out' = (files'.faults ≡ files.faults) × (out.faults < out'.faults)
CountsFollowed (Err follow_fault.OutOfMemory) files files' out out' = NoneRose files files' out out'

-- The plan was accepted and can be saved, the checkpoint is one of it, and the script was followed. Behind what was told of its lines
-- the error stream gained the text for how it went.
pub record FollowedTo (command : Command) (files files' : FilesSeen) (out out' err err' : SinkSeen) (s : Status) : Type 0 where
  pub nodes : List PlanNode
  pub plan : (told : List ℕ → List ℕ) → AreTold files.content told (command.file ∷ []) → IsPlanOf (told command.file) nodes
  pub can : CanSavePlan nodes
  pub result : Result Bool FollowFault
  pub left : Option (List ℕ)
  pub told : SinkSeen
  pub followed : FollowsScript result command nodes files (script_outside (files.content command.script) out err) (script_outside left out' told)
  pub counted : CountsFollowed result files files' out out'
  pub went : Outcome
  pub went_as : GoesAs result went
  pub answered : (s ≡ status_of went) ⊎ (s ≡ status.OutOfMemory)
  pub reported : s ≢ status.OutOfMemory → SinkGains told err' (outcome_text went)
  pub lacking : s ≡ status.OutOfMemory → TellsLack told err' (outcome_text went)
  pub asked : files'.asked ≡ files.asked ++ named_files command
  pub contents : (name : List ℕ) → files'.content name ≡ files.content name

-- ---- before that

-- how a command may go before its script is followed
abbrev pub IsEarly : Outcome → Type 0
IsEarly (outcome.BadPlan kind node) = Unit {0}
IsEarly (outcome.Unsaved node) = Unit {0}
IsEarly (outcome.BadCheckpoint line) = Unit {0}
IsEarly outcome.Read = Unit {0}
IsEarly outcome.OutOfMemory = Unit {0}
IsEarly outcome.Done = ⊥
IsEarly outcome.Usage = ⊥
IsEarly (outcome.Events said) = ⊥
IsEarly outcome.Write = ⊥

-- a file that isn't found is a refused read, unless memory ran out
abbrev pub IsUnfound : {T : Type 0} → Result T Outcome → Type 0
IsUnfound (Ok found) = Unit {0}
IsUnfound (Err outcome.Read) = Unit {0}
IsUnfound (Err outcome.OutOfMemory) = Unit {0}
IsUnfound (Err (outcome.BadPlan kind node)) = ⊥
IsUnfound (Err (outcome.Unsaved node)) = ⊥
IsUnfound (Err (outcome.BadCheckpoint line)) = ⊥
IsUnfound (Err outcome.Done) = ⊥
IsUnfound (Err outcome.Usage) = ⊥
IsUnfound (Err (outcome.Events said)) = ⊥
IsUnfound (Err outcome.Write) = ⊥

-- It ended as a command does that stops at its plan, its checkpoint, or a script that isn't there; and nothing was written.
pub record EndsEarly (command : Command) (files files' : FilesSeen) (out out' err err' : SinkSeen) (s : Status) : Type 0 where
  pub ends : Ends (Some command) files files' out out' err err' s
  pub early : IsEarly ends.went
  pub silent : out' ≡ out

abbrev pub EndsFollowing : Command → FilesSeen → FilesSeen → SinkSeen → SinkSeen → SinkSeen → SinkSeen → Status → Type 0
EndsFollowing command files files' out out' err err' s = EndsEarly command files files' out out' err err' s ⊎ FollowedTo command files files' out out' err err' s

-- ---- any command

-- A call whose words name this command, or match none, ends as `Ends` says, or where the command follows a script, as above.
abbrev pub EndsCommand : Option Command → FilesSeen → FilesSeen → SinkSeen → SinkSeen → SinkSeen → SinkSeen → Status → Type 0
EndsCommand None files files' out out' err err' s = Ends None files files' out out' err err' s
EndsCommand (Some command) files files' out out' err err' s = ends command.job where
  ends : Job → Type 0
  ends Follow = EndsFollowing command files files' out out' err err' s
  ends FollowFrom = EndsFollowing command files files' out out' err err' s
  ends job = Ends (Some command) files files' out out' err err' s
