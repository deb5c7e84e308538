-- How a command went, and what is said of it.
use Rattle.std.specs.Prelude.{ℕ, ◌≡◌, ◌≢◌, ◌<◌, ◌⊎◌, List, [], ◌∷◌, ◌++◌, codes}
use Rattle.std.specs.Io.KnownBytes.{Appends, Keeps}
use Rattle.cedr_io.specs.Asked.{AppendsFront}
use Rattle.cedr_guard.specs.Spelt.{State}
use Rattle.cedr_plan.specs.declared.plan.PlanNode.{PlanNode}
use Rattle.cedr_save.specs.Checkpoints.{plan_sources, IsCheckpoint}
use Rattle.plan_answer.specs.Sources.{AsksFirst, AreTold, source_files}
use Rattle.cedr_text.specs.Texts.{line_feed}
use Rattle.cedr_commands.specs.declared.command.Job.{Job}
use Rattle.cedr_commands.specs.declared.command.Job.TheVariants.{Serial, Run, Pool, Parts, Stream, Audit, Live, Save, Resume, Follow, FollowFrom}
use Rattle.cedr_commands.specs.declared.outcome.Outcome.{Outcome}
use Rattle.cedr_commands.specs.declared.outcome.Outcome.TheVariants as outcome
use Rattle.cedr_commands.specs.declared.status.Status.{Status}
use Rattle.cedr_commands.specs.declared.status.Status.TheVariants as status
use Rattle.cedr_commands.specs.Answers.{IsPlanOf, OfPlan, Gives, Refuses, Begins, RefusesPlan, RefusesSaving, RefusesCheckpoint, StreamsSoFar}
use Rattle.cedr_commands.specs.Commands.{Command, named_files}
use Rattle.cedr_commands.specs.Resuming.{CanSavePlan}
use Rattle.cedr_commands.specs.Refusals.{plan_fault_text, unsaved_text, checkpoint_fault_text}
use Rattle.cedr_commands.specs.Seen.{FilesSeen, SinkSeen, NoneRose, BreaksOff}

-- ---- texts on standard error

-- the text where the words match no command
abbrev pub usage_text : List ℕ
usage_text = codes "usage: cedr history FILE | check PLAN | serial PLAN | run PLAN | stream PLAN | audit PLAN | live PLAN SCRIPT | make N | pool N PLAN | parts N PLAN | save PLAN SCRIPT | resume PLAN CHECKPOINT SCRIPT | follow PLAN SCRIPT | follow PLAN CHECKPOINT SCRIPT" ++ line_feed ∷ []

-- the text where a file wasn't found, or a read was refused
abbrev pub read_text : List ℕ
read_text = codes "read fault" ++ line_feed ∷ []

-- the text where a write was refused
abbrev pub write_text : List ℕ
write_text = codes "write fault" ++ line_feed ∷ []

-- the text where memory ran out
abbrev pub memory_text : List ℕ
memory_text = codes "out of memory" ++ line_feed ∷ []

-- what is reported on standard error
abbrev pub outcome_text : Outcome → List ℕ
outcome_text outcome.Done = []
outcome_text outcome.Usage = usage_text
outcome_text (outcome.Events said) = said.items
outcome_text (outcome.BadPlan kind node) = plan_fault_text kind node
outcome_text (outcome.Unsaved node) = unsaved_text node
outcome_text (outcome.BadCheckpoint line) = checkpoint_fault_text line
outcome_text outcome.Read = read_text
outcome_text outcome.Write = write_text
outcome_text outcome.OutOfMemory = memory_text

-- the status of how a command went
abbrev pub status_of : Outcome → Status
status_of outcome.Done = status.Done
status_of outcome.Usage = status.Usage
status_of (outcome.Events said) = status.Events
status_of (outcome.BadPlan kind node) = status.Plan
status_of (outcome.Unsaved node) = status.Plan
status_of (outcome.BadCheckpoint line) = status.Checkpoint
status_of outcome.Read = status.Read
status_of outcome.Write = status.Write
status_of outcome.OutOfMemory = status.OutOfMemory

-- where memory ran out: err gained a front of the words for that. Or err itself lacked memory, after a front of this
-- text
abbrev pub TellsLack : SinkSeen → SinkSeen → List ℕ → Type 0
TellsLack err err' text = AppendsFront err.written err'.written memory_text ⊎ BreaksOff err err' text

-- ---- how a command went

-- Where it is known what the named files hold, out gained a text of which this holds.
abbrev pub Wrote : FilesSeen → Command → SinkSeen → SinkSeen → ((List ℕ → List ℕ) → List ℕ → Type 0) → Type 0
Wrote files command out out' holds = (told : List ℕ → List ℕ) → AreTold files.content told (named_files command) → (text : List ℕ) × holds told text × Appends out.written out'.written text

-- and a front of such a text
abbrev pub WroteFront : FilesSeen → Command → SinkSeen → SinkSeen → ((List ℕ → List ℕ) → List ℕ → Type 0) → Type 0
WroteFront files command out out' holds = (told : List ℕ → List ℕ) → AreTold files.content told (named_files command) → (text : List ℕ) × holds told text × AppendsFront out.written out'.written text

-- nothing was written, unless this command writes as it goes
abbrev pub IsSilent : Command → SinkSeen → SinkSeen → Type 0
IsSilent command out out' = command.job ≢ Live → command.job ≢ Stream → command.job ≢ Resume → Keeps out.written out'.written

-- the same at a refused read: `stream` had written a front of the changes of a partial run
abbrev pub IsSilentAtRead : Command → FilesSeen → SinkSeen → SinkSeen → Type 0
IsSilentAtRead command files out out' = Keeps out.written out'.written ⊎ ((command.job ≡ Stream) × WroteFront files command out out' (λ told text. OfPlan files.content told command.file (λ nodes. StreamsSoFar told nodes text)))

-- Which counts rose, and what out gained:
-- `Done`: nothing refused, and out gained what the command gives.
-- `Events`: nothing refused, and some line that the command read isn't accepted, which is what is said.
-- `BadPlan`: nothing refused or was written, and the file is no plan.
-- `Unsaved`: the same, and the command saves or resumes and the plan can't be saved.
-- `BadCheckpoint`: the same, and the command resumes, the plan can be saved and the file isn't a checkpoint of it.
-- `Read` and `Write`: a count rose. At `Read` no write was refused, since `Write` comes before it; and nothing was written, but for
-- what `stream` had written by then.
-- At `Write` and at want of memory out gained nothing, or a front of what the command gives.
abbrev pub CommandEnds : Command → FilesSeen → FilesSeen → SinkSeen → SinkSeen → Outcome → Type 0
CommandEnds command files files' out out' outcome.Done = NoneRose files files' out out' × Wrote files command out out' (λ told text. Gives files.content told command text)
CommandEnds command files files' out out' outcome.Usage = ⊥
CommandEnds command files files' out out' (outcome.Events said) = NoneRose files files' out out' × IsSilent command out out' × Wrote files command out out' (λ told text. Refuses files.content told command text said.items)
CommandEnds command files files' out out' (outcome.BadPlan kind node) = NoneRose files files' out out' × Keeps out.written out'.written × ((told : List ℕ → List ℕ) → AreTold files.content told (command.file ∷ []) → RefusesPlan told command kind node)
CommandEnds command files files' out out' (outcome.Unsaved node) = NoneRose files files' out out' × Keeps out.written out'.written × ((told : List ℕ → List ℕ) → AreTold files.content told (command.file ∷ []) → RefusesSaving told command node)
CommandEnds command files files' out out' (outcome.BadCheckpoint line) = NoneRose files files' out out' × Keeps out.written out'.written × ((told : List ℕ → List ℕ) → AreTold files.content told (command.file ∷ command.checkpoint ∷ []) → RefusesCheckpoint told command line)
CommandEnds command files files' out out' outcome.Read = (files.faults < files'.faults) × (out'.faults ≡ out.faults) × IsSilentAtRead command files out out'
CommandEnds command files files' out out' outcome.Write = (out.faults < out'.faults) × WroteFront files command out out' (λ told text. Begins files.content told command text)
CommandEnds command files files' out out' outcome.OutOfMemory = Keeps out.written out'.written ⊎ WroteFront files command out out' (λ told text. Begins files.content told command text)

-- ---- which files were asked for

-- of a plan and the files of its sources the first ones, each once and in this order
pub record AsksPlan (files files' : FilesSeen) (file : List ℕ) : Type 0 where
  pub nodes : List PlanNode
  pub plan : (told : List ℕ → List ℕ) → AreTold files.content told (file ∷ []) → IsPlanOf (told file) nodes
  pub asked : AsksFirst files.asked files'.asked (file ∷ source_files nodes)

-- of a plan of which this holds and the files behind it the first ones, each once and in this order
pub record AsksBehind (files files' : FilesSeen) (file : List ℕ) (holds : List PlanNode → Type 0) (names : List (List ℕ)) : Type 0 where
  pub nodes : List PlanNode
  pub plan : (told : List ℕ → List ℕ) → AreTold files.content told (file ∷ []) → IsPlanOf (told file) nodes
  pub holding : holds nodes
  pub asked : AsksFirst files.asked files'.asked (file ∷ names)

-- where it is known what this file holds, that is a checkpoint of a plan of these nodes
abbrev pub HoldsCheckpoint : FilesSeen → List ℕ → List PlanNode → Type 0
HoldsCheckpoint files checkpoint nodes = (told : List ℕ → List ℕ) → AreTold files.content told (checkpoint ∷ []) → (states : List State) × IsCheckpoint (plan_sources nodes) states (told checkpoint)

-- The named files alone, or where the command reads the sources of a plan those too. A script is asked for only behind an
-- accepted plan, and to save, resume or follow only behind one that can be saved; a checkpoint too, and behind it the script only where it
-- is a checkpoint of the plan.
abbrev pub AsksOnly : Command → FilesSeen → FilesSeen → Type 0
AsksOnly command files files' = asks command.job where
  asks : Job → Type 0
  asks Live = AsksFirst files.asked files'.asked (command.file ∷ []) ⊎ AsksBehind files files' command.file (λ nodes. Unit {0}) (command.script ∷ [])
  asks Save = AsksFirst files.asked files'.asked (command.file ∷ []) ⊎ AsksBehind files files' command.file CanSavePlan (command.script ∷ [])
  asks Resume = AsksFirst files.asked files'.asked (command.file ∷ []) ⊎ (AsksBehind files files' command.file CanSavePlan (command.checkpoint ∷ []) ⊎ AsksBehind files files' command.file (λ nodes. CanSavePlan nodes × HoldsCheckpoint files command.checkpoint nodes) (command.checkpoint ∷ command.script ∷ []))
  asks Follow = AsksFirst files.asked files'.asked (command.file ∷ []) ⊎ AsksBehind files files' command.file CanSavePlan (command.script ∷ [])
  asks FollowFrom = AsksFirst files.asked files'.asked (command.file ∷ []) ⊎ (AsksBehind files files' command.file CanSavePlan (command.checkpoint ∷ []) ⊎ AsksBehind files files' command.file (λ nodes. CanSavePlan nodes × HoldsCheckpoint files command.checkpoint nodes) (command.checkpoint ∷ command.script ∷ []))
  asks Serial = AsksFirst files.asked files'.asked (named_files command) ⊎ AsksPlan files files' command.file
  asks Run = AsksFirst files.asked files'.asked (named_files command) ⊎ AsksPlan files files' command.file
  asks (Pool n) = AsksFirst files.asked files'.asked (named_files command) ⊎ AsksPlan files files' command.file
  asks (Parts n) = AsksFirst files.asked files'.asked (named_files command) ⊎ AsksPlan files files' command.file
  asks Audit = AsksFirst files.asked files'.asked (named_files command) ⊎ AsksPlan files files' command.file
  asks Stream = AsksFirst files.asked files'.asked (named_files command) ⊎ AsksPlan files files' command.file
  asks job = AsksFirst files.asked files'.asked (named_files command)
