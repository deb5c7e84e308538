-- What a command writes, and why it is refused, by what the files hold that it reads.
use Rattle.std.specs.Prelude.{ℕ, ◌≡◌, ◌<◌, ◌⊎◌, Bool, true, false, List, [], ◌∷◌, ◌++◌, length, map, take, codes, if◌then◌else◌, Option, None, Some, Ok, Err}
use Rattle.std.specs.Str.{bytes_eq}
use Rattle.cedr_base.specs.declared.change.Change.{Change}
use Rattle.cedr_base.specs.declared.change.Change.TheVariants.{Add}
use Rattle.cedr_base.specs.declared.change.Message.{Message}
use Rattle.cedr_base.specs.declared.row.Row.{Row}
use Rattle.cedr_base.specs.Messages.{changes_of}
use Rattle.cedr_text.specs.declared.event_line.Shape.{Shape}
use Rattle.cedr_text.specs.declared.event_line.Shape.TheVariants.{AnyText}
use Rattle.cedr_text.specs.Texts.{rows_text}
use Rattle.cedr_base.specs.Rows.{in_order}
use Rattle.cedr_guard.specs.declared.refusal.Refusal.{Refusal}
use Rattle.cedr_guard.specs.History.{history_of}
use Rattle.cedr_guard.specs.Sources.{judged, messages_of}
use Rattle.node_laws.specs.Lists.{Lists, list_at}
use Rattle.node_laws.specs.Surplus.{Ascend}
use Rattle.plan_live.specs.Plays.{IsPlayed, IsPlayedSoFar}
use Rattle.cedr_make.specs.BuiltIn.{built_in}
use Rattle.cedr_make.specs.Generator.{made_text}
use Rattle.cedr_make.specs.Summary.{summary_text}
use Rattle.cedr_plan.specs.Drawn.{Drawn, node_of}
use Rattle.cedr_plan.specs.Places.{output_place}
use Rattle.cedr_plan.specs.Plans.{plan_of}
use Rattle.cedr_plan.specs.CheckTexts.{check_text}
use Rattle.cedr_plan.specs.declared.fault.PlanKind.{PlanKind}
use Rattle.cedr_plan.specs.declared.plan.PlanNode.{PlanNode}
use Rattle.plan_runs.specs.Runs.{IsPartialRun, IsPrefix}
use Rattle.plan_runs.specs.Without.{Remembers}
use Rattle.plan_answer.specs.Queries.{source_nodes, AreAcceptedSources, IsAnswerText, IsStreamText, LeadsTo, given_text, query_rows, IsStrong}
use Rattle.plan_serial.specs.Rounds.{ByLine, CameByLine}
use Rattle.plan_serial.specs.Sources.{AreReadByLine}
use Rattle.plan_answer.specs.Sources.{source_files, AreTold, AllHaveGiven, faulty_from, file_of}
use Rattle.cedr_text.specs.Shapes.{ShapeHasTypes}
use Rattle.cedr_table.specs.Operators.{Tables}
use Rattle.cedr_commands.specs.declared.command.Job.{Job}
use Rattle.cedr_commands.specs.declared.command.Job.TheVariants.{History, Check, Serial, Run, Pool, Parts, Stream, Audit, Live, Make, Save, Resume, Follow, FollowFrom}
use Rattle.cedr_commands.specs.Commands.{Command}
use Rattle.told_faults.specs.FaultTexts.{refusal_text}
use Rattle.cedr_commands.specs.Resuming.{SavesScript, RefusesSaved, ResumesScript, ResumesSoFar, RefusesResumed, RefusesBytesOf}
use Rattle.cedr_save.specs.Saving.{first_unsaved}

-- what a file of each name holds
abbrev pub Contents : Type 0
Contents = List ℕ → Option (List ℕ)

-- ---- plans

-- the bytes describe a plan, and it has these nodes
pub record IsPlanOf (bytes : List ℕ) (nodes : List PlanNode) : Type 0 where
  pub plan : Drawn
  pub described : plan_of bytes ≡ Ok plan
  pub nodes_are : map node_of nodes ≡ plan.nodes

-- the bytes describe none: this fault of this node comes first
abbrev pub IsNoPlan : List ℕ → PlanKind → ℕ → Type 0
IsNoPlan bytes kind node = plan_of bytes ≡ Err (record { kind = kind; node = node })

-- ---- one file

-- the canonical history of a file that is accepted
pub record GivesHistory (bytes text : List ℕ) : Type 0 where
  pub accepted : (judged AnyText bytes).fault ≡ None
  pub text_is : text ≡ rows_text (history_of (judged AnyText bytes).good)

-- a file of this name that isn't accepted, and its first fault
pub record RefusesFile (name bytes said : List ℕ) : Type 0 where
  pub fault : Refusal
  pub first : (judged AnyText bytes).fault ≡ Some fault
  pub said_is : said ≡ refusal_text name fault

-- a line for each node of a plan
pub record GivesNodes (bytes text : List ℕ) : Type 0 where
  pub plan : Drawn
  pub described : plan_of bytes ≡ Ok plan
  pub text_is : text ≡ check_text plan.nodes

-- ---- a plan and its sources

-- The sources are accepted, and the text is that of the query over their canonical histories.
pub record AnswersQuery (always : Bool) (told : List ℕ → List ℕ) (nodes : List PlanNode) (text : List ℕ) : Type 0 where
  pub sources : Lists
  pub histories : Tables
  pub accepted : AreAcceptedSources told (source_nodes nodes) sources histories
  pub text_is : IsAnswerText always nodes sources histories text

-- The same, and what was forgotten is that of a run that came in rounds, in each of which each source gave its next line.
pub record AnswersInTurns (always : Bool) (told : List ℕ → List ℕ) (nodes : List PlanNode) (text : List ℕ) : Type 0 where
  pub query : AnswersQuery always told nodes text
  pub lines : ByLine
  pub read : AreReadByLine told nodes lines []
  pub rounds : CameByLine nodes lines query.text_is.ports query.text_is.given

-- The sources are accepted, no port has a finite memory, and the text is the rows of the query over their canonical histories, in
-- canonical order.
pub record AnswersRows (told : List ℕ → List ℕ) (nodes : List PlanNode) (text : List ℕ) : Type 0 where
  pub sources : Lists
  pub histories : Tables
  pub accepted : AreAcceptedSources told (source_nodes nodes) sources histories
  pub remembers : Remembers nodes
  pub text_is : text ≡ rows_text (in_order (query_rows nodes histories))

-- the same as `AnswersQuery`, of the changes of the answer: they lead to the rows of the answer. Where the output is
-- strong they are one addition for each of these, in canonical order
pub record AnswersChanges (told : List ℕ → List ℕ) (nodes : List PlanNode) (text : List ℕ) : Type 0 where
  pub sources : Lists
  pub histories : Tables
  pub accepted : AreAcceptedSources told (source_nodes nodes) sources histories
  pub text_is : IsStreamText nodes sources text
  pub leads : LeadsTo nodes histories text_is.ports text_is.given

-- ---- a stream that was broken off

-- these are the first messages of the good lines of a source; the end is among them only where all its lines are good
pub record HasBegun (told : List ℕ → List ℕ) (node : PlanNode) (ms : List Message) : Type 0 where
  pub shape : Shape
  pub types : ShapeHasTypes shape node.types.items
  pub first : IsPrefix ms (messages_of shape (told (file_of node.kind)))

-- the same of each of some sources, in order
abbrev pub AllHaveBegun : (List ℕ → List ℕ) → List PlanNode → Lists → Type 0
AllHaveBegun told [] [] = Unit {0}
AllHaveBegun told [] (l ∷ ls) = ⊥
AllHaveBegun told (n ∷ nodes) [] = ⊥
AllHaveBegun told (n ∷ nodes) (l ∷ ls) = HasBegun told n l × AllHaveBegun told nodes ls

-- the changes add rows in canonical order, and take nothing back
pub record AddsInOrder (cs : List Change) : Type 0 where
  pub rows : List Row
  pub changes_are : cs ≡ map (λ (r : Row). Add r) rows
  pub ascend : Ascend rows

-- The changes that the output gave in a partial run over the first messages of the sources. Where the output is strong they
-- add rows in canonical order, whatever the ports forgot.
pub record StreamsSoFar (told : List ℕ → List ℕ) (nodes : List PlanNode) (text : List ℕ) : Type 0 where
  pub begun : Lists
  pub first : AllHaveBegun told (source_nodes nodes) begun
  pub ports : List Lists
  pub given : Lists
  pub run : IsPartialRun nodes begun ports given
  pub ordered : IsStrong nodes → AddsInOrder (changes_of (list_at given (output_place nodes)))
  pub text_is : text ≡ given_text nodes given

-- a front of such a text
pub record StreamsFront (told : List ℕ → List ℕ) (nodes : List PlanNode) (text : List ℕ) : Type 0 where
  pub whole : List ℕ
  pub begins : StreamsSoFar told nodes whole
  pub count : ℕ
  pub text_is : text ≡ take count whole

-- what a command gives of a plan of these nodes and its sources
abbrev pub GivesPlan : Job → (List ℕ → List ℕ) → List PlanNode → List ℕ → Type 0
GivesPlan Stream told nodes text = AnswersChanges told nodes text
GivesPlan Audit told nodes text = AnswersInTurns true told nodes text
GivesPlan Serial told nodes text = AnswersInTurns false told nodes text
GivesPlan (Parts n) told nodes text = AnswersRows told nodes text ⊎ AnswersQuery false told nodes text
GivesPlan job told nodes text = AnswersQuery false told nodes text

-- the texts of which a front is written where writing or memory fails
abbrev pub BeginsPlan : Job → (List ℕ → List ℕ) → List PlanNode → List ℕ → Type 0
BeginsPlan Stream told nodes text = StreamsSoFar told nodes text ⊎ AnswersChanges told nodes text
BeginsPlan job told nodes text = GivesPlan job told nodes text

-- the line of a node whose source isn't accepted, with its first fault
abbrev pub fault_text : List ℕ → Option Refusal → List ℕ
fault_text name None = []
fault_text name (Some refusal) = refusal_text name refusal

-- a line for each node whose source isn't accepted, in the order of the plan, with its first fault
abbrev pub faults_text : List PlanNode → List (Option Refusal) → List ℕ
faults_text [] faults = []
faults_text (n ∷ nodes) [] = []
faults_text (n ∷ nodes) (f ∷ faults) = fault_text n.name f ++ faults_text nodes faults

-- some source isn't accepted, and all that aren't are listed
pub record RefusesSources (told : List ℕ → List ℕ) (nodes : List PlanNode) (said : List ℕ) : Type 0 where
  pub left : Lists
  pub faults : List (Option Refusal)
  pub given : AllHaveGiven told nodes left faults
  pub some : 0 < length (faulty_from 0 faults)
  pub said_is : said ≡ faults_text nodes faults

-- a plan of these nodes, and what holds of them where it is known what the files of its sources hold
pub record OfPlan (content : Contents) (told : List ℕ → List ℕ) (file : List ℕ) (holds : List PlanNode → Type 0) : Type 0 where
  pub nodes : List PlanNode
  pub plan : IsPlanOf (told file) nodes
  pub holding : AreTold content told (source_files nodes) → holds nodes

-- ---- a script

-- a plan of these nodes, and what holds of them
pub record OfPlanAlone (bytes : List ℕ) (holds : List PlanNode → Type 0) : Type 0 where
  pub nodes : List PlanNode
  pub plan : IsPlanOf bytes nodes
  pub holding : holds nodes

-- a script that isn't accepted, and its first fault
pub record RefusesScript (name bytes : List ℕ) (nodes : List PlanNode) (text said : List ℕ) : Type 0 where
  pub fault : Refusal
  pub played : IsPlayed nodes bytes text (Some fault)
  pub said_is : said ≡ refusal_text name fault

-- ---- the workload

-- the file of a source of a workload, by its name
abbrev pub made_file : ℕ → List ℕ → List ℕ
made_file n name = if bytes_eq name (codes "a") then made_text 0 n else made_text 1 n

-- the summary of the query of its plan over the canonical histories of its sources
pub record GivesSummary (n : ℕ) (text : List ℕ) : Type 0 where
  pub nodes : List PlanNode
  pub nodes_are : map node_of nodes ≡ built_in.nodes
  pub sources : Lists
  pub histories : Tables
  pub accepted : AreAcceptedSources (made_file n) (source_nodes nodes) sources histories
  pub text_is : text ≡ summary_text (in_order (query_rows nodes histories))

-- ---- each command

-- what a command writes where nothing stands in its way; of what `follow` writes the crate `cedr_follow` tells
abbrev pub Gives : Contents → (List ℕ → List ℕ) → Command → List ℕ → Type 0
Gives content told command text = gives command.job where
  gives : Job → Type 0
  gives History = GivesHistory (told command.file) text
  gives Check = GivesNodes (told command.file) text
  gives Serial = OfPlan content told command.file (λ nodes. GivesPlan Serial told nodes text)
  gives Run = OfPlan content told command.file (λ nodes. GivesPlan Run told nodes text)
  gives (Pool n) = OfPlan content told command.file (λ nodes. GivesPlan (Pool n) told nodes text)
  gives (Parts n) = OfPlan content told command.file (λ nodes. GivesPlan (Parts n) told nodes text)
  gives Audit = OfPlan content told command.file (λ nodes. GivesPlan Audit told nodes text)
  gives Stream = OfPlan content told command.file (λ nodes. GivesPlan Stream told nodes text)
  gives Live = OfPlanAlone (told command.file) (λ nodes. IsPlayed nodes (told command.script) text None)
  gives (Make n) = GivesSummary n text
  gives Save = OfPlanAlone (told command.file) (λ nodes. SavesScript nodes (told command.script) text)
  gives Follow = ⊥
  gives FollowFrom = ⊥
  gives Resume = OfPlanAlone (told command.file) (λ nodes. ResumesScript nodes (told command.checkpoint) (told command.script) text None)

-- what it wrote, and what is said of it, where some line isn't accepted
abbrev pub Refuses : Contents → (List ℕ → List ℕ) → Command → List ℕ → List ℕ → Type 0
Refuses content told command text said = refuses command.job where
  refuses : Job → Type 0
  refuses History = (text ≡ []) × RefusesFile command.file (told command.file) said
  refuses Check = ⊥
  refuses Serial = (text ≡ []) × OfPlan content told command.file (λ nodes. RefusesSources told nodes said)
  refuses Run = (text ≡ []) × OfPlan content told command.file (λ nodes. RefusesSources told nodes said)
  refuses (Pool n) = (text ≡ []) × OfPlan content told command.file (λ nodes. RefusesSources told nodes said)
  refuses (Parts n) = (text ≡ []) × OfPlan content told command.file (λ nodes. RefusesSources told nodes said)
  refuses Audit = (text ≡ []) × OfPlan content told command.file (λ nodes. RefusesSources told nodes said)
  refuses Stream = OfPlan content told command.file (λ nodes. RefusesSources told nodes said × ((text ≡ []) ⊎ StreamsFront told nodes text))
  refuses Live = OfPlanAlone (told command.file) (λ nodes. RefusesScript command.script (told command.script) nodes text said)
  refuses (Make n) = ⊥
  refuses Save = (text ≡ []) × OfPlanAlone (told command.file) (λ nodes. RefusesSaved command.script (told command.script) nodes said)
  refuses Follow = ⊥
  refuses FollowFrom = ⊥
  refuses Resume = OfPlanAlone (told command.file) (λ nodes. RefusesResumed command.script (told command.checkpoint) (told command.script) nodes text said)

-- a text of which a front is written where writing or memory fails
abbrev pub Begins : Contents → (List ℕ → List ℕ) → Command → List ℕ → Type 0
Begins content told command text = begins command.job where
  begins : Job → Type 0
  begins Stream = OfPlan content told command.file (λ nodes. BeginsPlan Stream told nodes text)
  begins Live = OfPlanAlone (told command.file) (λ nodes. IsPlayedSoFar nodes (told command.script) text)
  begins Resume = OfPlanAlone (told command.file) (λ nodes. ResumesSoFar nodes (told command.checkpoint) (told command.script) text)
  begins job = Gives content told command text

-- its file is no plan, and has this fault first
abbrev pub RefusesPlan : (List ℕ → List ℕ) → Command → PlanKind → ℕ → Type 0
RefusesPlan told command kind node = refuses command.job where
  refuses : Job → Type 0
  refuses History = ⊥
  refuses (Make n) = ⊥
  refuses job = IsNoPlan (told command.file) kind node

-- its plan can't be saved: this node is the first such one
abbrev pub RefusesSaving : (List ℕ → List ℕ) → Command → ℕ → Type 0
RefusesSaving told command node = refuses command.job where
  refuses : Job → Type 0
  refuses Save = OfPlanAlone (told command.file) (λ nodes. first_unsaved 0 nodes ≡ Some node)
  refuses Resume = OfPlanAlone (told command.file) (λ nodes. first_unsaved 0 nodes ≡ Some node)
  refuses Follow = OfPlanAlone (told command.file) (λ nodes. first_unsaved 0 nodes ≡ Some node)
  refuses FollowFrom = OfPlanAlone (told command.file) (λ nodes. first_unsaved 0 nodes ≡ Some node)
  refuses job = ⊥

-- its plan can be saved, and its checkpoint is none of it, for this line
abbrev pub RefusesCheckpoint : (List ℕ → List ℕ) → Command → ℕ → Type 0
RefusesCheckpoint told command line = refuses command.job where
  refuses : Job → Type 0
  refuses Resume = OfPlanAlone (told command.file) (λ nodes. RefusesBytesOf nodes (told command.checkpoint) line)
  refuses FollowFrom = OfPlanAlone (told command.file) (λ nodes. RefusesBytesOf nodes (told command.checkpoint) line)
  refuses job = ⊥
