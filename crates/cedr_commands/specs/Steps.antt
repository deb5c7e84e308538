-- The steps of a command: what each answers, from which it follows how the command went.
use Rattle.std.specs.Prelude.{ℕ, ◌≡◌, ◌<◌, ◌⊎◌, List, [], ◌∷◌, ◌++◌, Option, None, Some, IfSome, Result, Ok, Err, Vec}
use Rattle.std.specs.Global.{Global}
use Rattle.std.specs.List.{slice_get}
use Rattle.std.specs.Io.KnownBytes.{Appends, Keeps}
use Rattle.cedr_guard.specs.declared.refusal.Refusal.{Refusal}
use Rattle.cedr_guard.specs.declared.state.SourceState.{SourceState}
use Rattle.cedr_io.specs.Asked.{AppendsFront}
use Rattle.cedr_plan.specs.Drawn.{drawn}
use Rattle.cedr_plan.specs.Plans.{plan_of}
use Rattle.cedr_plan.specs.declared.plan.Plan.{Plan}
use Rattle.cedr_plan.specs.declared.plan.PlanNode.{PlanNode}
use Rattle.plan_answer.specs.Sources.{AreTold, source_files}
use Rattle.cedr_save.specs.Checkpoints.{plan_sources, IsCheckpoint}
use Rattle.cedr_save.specs.Refusals.{RefusesBytes}
use Rattle.cedr_save.specs.Saving.{first_unsaved}
use Rattle.plan_live.specs.Resumed.{states_in, AreStates}
use Rattle.cedr_source.specs.declared.entries.Entries.{Entries}
use Rattle.plan_serial.specs.Rounds.{ByLine}
use Rattle.plan_serial.specs.Sources.{AreReadByLine}
use Rattle.plan_answer.specs.declared.faulty.FaultySource.{FaultySource}
use Rattle.cedr_commands.specs.declared.command.Job.{Job}
use Rattle.cedr_commands.specs.declared.command.Job.TheVariants.{Serial, Run, Pool, Parts, Stream, Audit}
use Rattle.cedr_commands.specs.declared.outcome.Outcome.{Outcome}
use Rattle.cedr_commands.specs.declared.outcome.Outcome.TheVariants as outcome
use Rattle.cedr_commands.specs.Answers.{Contents, IsNoPlan, OfPlanAlone, RefusesSources, GivesPlan, BeginsPlan}
use Rattle.told_faults.specs.FaultTexts.{refusal_text}
use Rattle.cedr_commands.specs.Seen.{FilesSeen, SinkSeen, NoneRose}

-- ---- texts

-- the text was written, or a front of it
abbrev pub WritesText : Outcome → SinkSeen → SinkSeen → List ℕ → Type 0
WritesText outcome.Done out out' text = (out'.faults ≡ out.faults) × Appends out.written out'.written text
WritesText outcome.Write out out' text = (out.faults < out'.faults) × AppendsFront out.written out'.written text
WritesText outcome.OutOfMemory out out' text = AppendsFront out.written out'.written text
WritesText outcome.Usage out out' text = ⊥
WritesText (outcome.Events said) out out' text = ⊥
WritesText (outcome.BadPlan kind node) out out' text = ⊥
WritesText (outcome.Unsaved node) out out' text = ⊥
WritesText (outcome.BadCheckpoint line) out out' text = ⊥
WritesText outcome.Read out out' text = ⊥

-- this is said, unless memory ran out
abbrev pub Says : Outcome → List ℕ → Type 0
Says (outcome.Events said) text = said.items ≡ text
Says outcome.OutOfMemory text = Unit {0}
Says outcome.Done text = ⊥
Says outcome.Usage text = ⊥
Says (outcome.BadPlan kind node) text = ⊥
Says (outcome.Unsaved node) text = ⊥
Says (outcome.BadCheckpoint line) text = ⊥
Says outcome.Read text = ⊥
Says outcome.Write text = ⊥

-- a line for a faulty source, by its place
abbrev pub named_text : Option PlanNode → Refusal → List ℕ
named_text None refusal = []
named_text (Some node) refusal = refusal_text node.name refusal

-- such lines of some faulty sources, in order
abbrev pub faulty_text : List PlanNode → List FaultySource → List ℕ
faulty_text nodes [] = []
faulty_text nodes (f ∷ faulty) = named_text (slice_get nodes f.place) f.refusal ++ faulty_text nodes faulty

-- ---- files

-- a step that ends the command: the count rose exactly where a read was refused
abbrev pub CountsStep : {T : Type 0} → Result T Outcome → ℕ → ℕ → Type 0
CountsStep (Ok done) old new = new ≡ old
CountsStep (Err outcome.Read) old new = old < new
CountsStep (Err (outcome.Events said)) old new = new ≡ old
CountsStep (Err (outcome.BadPlan kind node)) old new = new ≡ old
CountsStep (Err (outcome.Unsaved node)) old new = new ≡ old
CountsStep (Err (outcome.BadCheckpoint line)) old new = new ≡ old
CountsStep (Err outcome.OutOfMemory) old new = new ≡ old
CountsStep (Err outcome.Done) old new = new ≡ old
CountsStep (Err outcome.Usage) old new = new ≡ old
CountsStep (Err outcome.Write) old new = new ≡ old

-- where it is known what the file holds: the plan that it describes, or its first fault
abbrev pub OpensPlan : Result Plan Outcome → Option (List ℕ) → Type 0
OpensPlan (Ok plan) content = IfSome content (λ bytes. plan_of bytes ≡ Ok (drawn plan))
OpensPlan (Err (outcome.BadPlan kind node)) content = IfSome content (λ bytes. IsNoPlan bytes kind node)
OpensPlan (Err outcome.Read) content = Unit {0}
OpensPlan (Err outcome.OutOfMemory) content = Unit {0}
OpensPlan (Err (outcome.Events said)) content = ⊥
OpensPlan (Err (outcome.Unsaved node)) content = ⊥
OpensPlan (Err (outcome.BadCheckpoint line)) content = ⊥
OpensPlan (Err outcome.Done) content = ⊥
OpensPlan (Err outcome.Usage) content = ⊥
OpensPlan (Err outcome.Write) content = ⊥

-- the same, where the plan can be saved; or the first node for which it can't
abbrev pub OpensSaved : Result Plan Outcome → Option (List ℕ) → Type 0
OpensSaved (Ok plan) content = OpensPlan (Ok plan) content
OpensSaved (Err (outcome.Unsaved node)) content = IfSome content (λ bytes. OfPlanAlone bytes (λ nodes. first_unsaved 0 nodes ≡ Some node))
OpensSaved (Err outcome.Done) content = OpensPlan (Err outcome.Done) content
OpensSaved (Err outcome.Usage) content = OpensPlan (Err outcome.Usage) content
OpensSaved (Err (outcome.Events said)) content = OpensPlan (Err (outcome.Events said)) content
OpensSaved (Err (outcome.BadPlan kind node)) content = OpensPlan (Err (outcome.BadPlan kind node)) content
OpensSaved (Err (outcome.BadCheckpoint line)) content = OpensPlan (Err (outcome.BadCheckpoint line)) content
OpensSaved (Err outcome.Read) content = OpensPlan (Err outcome.Read) content
OpensSaved (Err outcome.Write) content = OpensPlan (Err outcome.Write) content
OpensSaved (Err outcome.OutOfMemory) content = OpensPlan (Err outcome.OutOfMemory) content

-- where it is known what the file holds: the states that it spells as a checkpoint of a plan of these nodes, or the line at
-- which it is none
abbrev pub OpensCheckpoint : Result (Vec SourceState Global) Outcome → List PlanNode → Option (List ℕ) → Type 0
OpensCheckpoint (Ok states) nodes content = AreStates nodes states.items × IfSome content (λ bytes. IsCheckpoint (plan_sources nodes) (states_in states.items) bytes)
OpensCheckpoint (Err (outcome.BadCheckpoint line)) nodes content = IfSome content (λ bytes. RefusesBytes (plan_sources nodes) bytes line)
OpensCheckpoint (Err outcome.Read) nodes content = Unit {0}
OpensCheckpoint (Err outcome.OutOfMemory) nodes content = Unit {0}
OpensCheckpoint (Err outcome.Done) nodes content = ⊥
OpensCheckpoint (Err outcome.Usage) nodes content = ⊥
OpensCheckpoint (Err (outcome.Events said)) nodes content = ⊥
OpensCheckpoint (Err (outcome.BadPlan kind node)) nodes content = ⊥
OpensCheckpoint (Err (outcome.Unsaved node)) nodes content = ⊥
OpensCheckpoint (Err outcome.Write) nodes content = ⊥

-- some source isn't accepted, a read was refused, or memory ran out
abbrev pub StopsSources : {T : Type 0} → Result T Outcome → Type 0
StopsSources (Ok done) = Unit {0}
StopsSources (Err (outcome.Events said)) = Unit {0}
StopsSources (Err outcome.Read) = Unit {0}
StopsSources (Err outcome.OutOfMemory) = Unit {0}
StopsSources (Err (outcome.BadPlan kind node)) = ⊥
StopsSources (Err (outcome.Unsaved node)) = ⊥
StopsSources (Err (outcome.BadCheckpoint line)) = ⊥
StopsSources (Err outcome.Done) = ⊥
StopsSources (Err outcome.Usage) = ⊥
StopsSources (Err outcome.Write) = ⊥

-- all messages of the sources, or what is said of those that aren't accepted
abbrev pub OpensSources : Result (Vec Entries Global) Outcome → (List ℕ → List ℕ) → List PlanNode → Type 0
OpensSources (Ok left) told nodes = AreReadByLine told nodes left.items []
OpensSources (Err (outcome.Events said)) told nodes = RefusesSources told nodes said.items
OpensSources (Err other) told nodes = Unit {0}

-- ---- commands over sources

-- the command reads the sources of its plan
abbrev pub ReadsSources : Job → Type 0
ReadsSources Serial = Unit {0}
ReadsSources Run = Unit {0}
ReadsSources (Pool n) = Unit {0}
ReadsSources (Parts n) = Unit {0}
ReadsSources Audit = Unit {0}
ReadsSources Stream = Unit {0}
ReadsSources job = ⊥

-- what is written of a plan and its sources, by what the files of these hold
abbrev pub Texts : Type 1
Texts = (List ℕ → List ℕ) → List PlanNode → List ℕ → Type 0

-- What was written of a plan of these nodes and sources that have these lines left: such a text, if they are
-- accepted.
pub record GaveText (texts : Texts) (nodes : List PlanNode) (left : ByLine) (out out' : SinkSeen) : Type 0 where
  pub text : List ℕ
  pub gives : (told : List ℕ → List ℕ) → AreReadByLine told nodes left [] → texts told nodes text
  pub wrote : Appends out.written out'.written text

-- the same of a front of such a text
pub record BeganText (texts : Texts) (nodes : List PlanNode) (left : ByLine) (out out' : SinkSeen) : Type 0 where
  pub text : List ℕ
  pub begins : (told : List ℕ → List ℕ) → AreReadByLine told nodes left [] → texts told nodes text
  pub wrote : AppendsFront out.written out'.written text

-- such a text was written; or a write was refused, or memory ran out, and a front of one was written, or for
-- want of memory perhaps nothing
abbrev pub EndsWith : Texts → Texts → List PlanNode → ByLine → SinkSeen → SinkSeen → Outcome → Type 0
EndsWith gives begins nodes left out out' outcome.Done = (out'.faults ≡ out.faults) × GaveText gives nodes left out out'
EndsWith gives begins nodes left out out' outcome.Write = (out.faults < out'.faults) × BeganText begins nodes left out out'
EndsWith gives begins nodes left out out' outcome.OutOfMemory = Keeps out.written out'.written ⊎ BeganText begins nodes left out out'
EndsWith gives begins nodes left out out' outcome.Usage = ⊥
EndsWith gives begins nodes left out out' (outcome.Events said) = ⊥
EndsWith gives begins nodes left out out' (outcome.BadPlan kind node) = ⊥
EndsWith gives begins nodes left out out' (outcome.Unsaved node) = ⊥
EndsWith gives begins nodes left out out' (outcome.BadCheckpoint line) = ⊥
EndsWith gives begins nodes left out out' outcome.Read = ⊥

-- the same of what a command gives of a plan and its sources
abbrev pub EndsSources : Job → List PlanNode → ByLine → SinkSeen → SinkSeen → Outcome → Type 0
EndsSources job nodes left out out' o = EndsWith (GivesPlan job) (BeginsPlan job) nodes left out out' o

-- ---- behind a plan

-- of an opened plan of these nodes such a text was written, where it is known what the files of its sources hold
pub record GavePlan (texts : Texts) (content : Contents) (nodes : List PlanNode) (out out' : SinkSeen) : Type 0 where
  pub text : List ℕ
  pub gives : (told : List ℕ → List ℕ) → AreTold content told (source_files nodes) → texts told nodes text
  pub wrote : Appends out.written out'.written text

-- the same of a front of such a text
pub record BeganPlan (texts : Texts) (content : Contents) (nodes : List PlanNode) (out out' : SinkSeen) : Type 0 where
  pub text : List ℕ
  pub begins : (told : List ℕ → List ℕ) → AreTold content told (source_files nodes) → texts told nodes text
  pub wrote : AppendsFront out.written out'.written text

-- How a command ends behind an opened plan of these nodes, where it writes its text when that is whole.
abbrev pub EndsPlan : Job → List PlanNode → FilesSeen → FilesSeen → SinkSeen → SinkSeen → Outcome → Type 0
EndsPlan job nodes files files' out out' outcome.Done = NoneRose files files' out out' × GavePlan (GivesPlan job) files.content nodes out out'
EndsPlan job nodes files files' out out' (outcome.Events said) = NoneRose files files' out out' × Keeps out.written out'.written × ((told : List ℕ → List ℕ) → AreTold files.content told (source_files nodes) → RefusesSources told nodes said.items)
EndsPlan job nodes files files' out out' outcome.Read = (files.faults < files'.faults) × (out'.faults ≡ out.faults) × Keeps out.written out'.written
EndsPlan job nodes files files' out out' outcome.Write = (out.faults < out'.faults) × BeganPlan (BeginsPlan job) files.content nodes out out'
EndsPlan job nodes files files' out out' outcome.OutOfMemory = Keeps out.written out'.written ⊎ BeganPlan (BeginsPlan job) files.content nodes out out'
EndsPlan job nodes files files' out out' outcome.Usage = ⊥
EndsPlan job nodes files files' out out' (outcome.BadPlan kind node) = ⊥
EndsPlan job nodes files files' out out' (outcome.Unsaved node) = ⊥
EndsPlan job nodes files files' out out' (outcome.BadCheckpoint line) = ⊥
