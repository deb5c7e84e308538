-- How a run on threads ends, and what is reported of it.
use Rattle.std.specs.Prelude.{ℕ, ◌≡◌, ◌<◌, ◌⊎◌, List, [], length, map, if◌then◌else◌, Option, None, Some}
use Rattle.std.specs.Io.KnownBytes.{Appends, Keeps}
use Rattle.std.specs.List.{All}
use Rattle.plan_answer.specs.Finds.{AreFound}
use Rattle.cedr_base.specs.declared.change.Change.{Change}
use Rattle.cedr_base.specs.declared.change.Message.{Message}
use Rattle.cedr_base.specs.declared.row.Row.{Row}
use Rattle.cedr_base.specs.Messages.{IsLegal, IsTableOf, changes_of}
use Rattle.cedr_base.specs.Rows.{in_order}
use Rattle.plan_answer.specs.declared.forgotten.PortForgotten.{PortForgotten}
use Rattle.plan_answer.specs.Forgettings.{nodes_forgot, port_forgot}
use Rattle.cedr_edge.specs.Ends.{Carried}
use Rattle.cedr_io.specs.Asked.{AppendsFront}
use Rattle.cedr_io.specs.Counts.{Rose, last_count}
use Rattle.node_laws.specs.declared.forgotten.Forgotten.{Forgotten}
use Rattle.cedr_plan.specs.declared.plan.PlanNode.{PlanNode}
use Rattle.cedr_plan.specs.Places.{source_count}
use Rattle.plan_answer.specs.Answers.{answer_text, has_memory, tail_text}
use Rattle.plan_answer.specs.Queries.{changes_text}
use Rattle.plan_answer.specs.Sources.{AreTold, source_files}
use Rattle.plan_report.specs.declared.report.Outcome.{Outcome as Came}
use Rattle.plan_report.specs.declared.report.Outcome.TheVariants as came
use Rattle.plan_report.specs.declared.report.Report.{Report}
use Rattle.plan_report.specs.Reports.{IsReport}
use Rattle.plan_report.specs.SoFar.{IsSoFar}
use Rattle.cedr_worker.specs.declared.ran.Ran.{Ran}
use Rattle.cedr_commands.specs.declared.command.Job.{Job}
use Rattle.cedr_commands.specs.declared.command.Job.TheVariants.{Run, Pool, Stream}
use Rattle.cedr_commands.specs.declared.outcome.Outcome.{Outcome}
use Rattle.cedr_commands.specs.declared.outcome.Outcome.TheVariants as outcome
use Rattle.cedr_run.specs.declared.progress.Progress.{Progress}
use Rattle.cedr_run.specs.declared.progress.Progress.TheVariants as progress
use Rattle.cedr_commands.specs.declared.status.Status.{Status}
use Rattle.cedr_commands.specs.declared.status.Status.TheVariants as status
use Rattle.cedr_commands.specs.Answers.{BeginsPlan, Contents, OfPlan, RefusesSources, StreamsSoFar}
use Rattle.cedr_run.specs.Answers.{AnswersRun, AnswersStream}
use Rattle.cedr_commands.specs.Commands.{Command, IsNumbered}
use Rattle.cedr_commands.specs.Outcomes.{Wrote}
use Rattle.cedr_commands.specs.Seen.{FilesSeen, SinkSeen, NoneRose}
use Rattle.cedr_commands.specs.Steps.{Says, WritesText, faulty_text}

-- ---- what is written

-- these are the changes of a legal list, and this is what each port of each node forgot
pub record CanTell (nodes : List PlanNode) (changes : List Change) (forgotten : List PortForgotten) (given : List Message) (listed : List (List (List Forgotten))) : Type 0 where
  pub legal : IsLegal given
  pub changes_are : changes ≡ changes_of given
  pub forgotten_are : map port_forgot forgotten ≡ nodes_forgot 0 listed
  pub count : length listed ≡ length nodes

-- memory ran out before anything was written, or the text of the rows of a list was written, or a front of it
abbrev pub WritesRun : List PlanNode → List Message → List (List (List Forgotten)) → SinkSeen → SinkSeen → Outcome → Type 0
WritesRun nodes given listed out out' o = ((o ≡ outcome.OutOfMemory) × (out' ≡ out)) ⊎ ((rows : List Row) × (IsTableOf given rows × WritesText o out out' (answer_text (has_memory nodes) nodes (in_order rows) listed)))

-- by how the run came to its end its text is written, or it is said why there is none
abbrev pub EndsRun : Came → List PlanNode → List Change → List PortForgotten → SinkSeen → SinkSeen → Outcome → Type 0
EndsRun came.Done nodes changes forgotten out out' o = (given : List Message) (listed : List (List (List Forgotten))) → CanTell nodes changes forgotten given listed → WritesRun nodes given listed out out' o
EndsRun came.Memory nodes changes forgotten out out' o = (o ≡ outcome.OutOfMemory) × (out' ≡ out)
EndsRun came.Read nodes changes forgotten out out' o = (o ≡ outcome.Read) × (out' ≡ out)
EndsRun (came.Events faulty) nodes changes forgotten out out' o = Says o (faulty_text nodes faulty.items) × (out' ≡ out)

-- ---- what is written of a stream

-- What a sink took between two moments: the lines of all these changes, or where a write was refused or memory was
-- lacking a front of them.
abbrev pub WroteList : Progress → SinkSeen → SinkSeen → List Change → Type 0
WroteList progress.Whole out out' list = (out'.faults ≡ out.faults) × Appends out.written out'.written (changes_text list)
WroteList progress.Refused out out' list = Rose out.faults out'.faults × AppendsFront out.written out'.written (changes_text list)
WroteList progress.Lacked out out' list = (out'.faults ≡ out.faults) × AppendsFront out.written out'.written (changes_text list)

-- what follows the changes: what was forgotten, where some port has a finite memory
abbrev pub tail_of : List PlanNode → List (List (List Forgotten)) → List ℕ
tail_of nodes listed = if has_memory nodes then tail_text nodes listed else []

-- this is what each port of each node forgot
pub record CanTellTail (nodes : List PlanNode) (forgotten : List PortForgotten) (listed : List (List (List Forgotten))) : Type 0 where
  pub forgotten_are : map port_forgot forgotten ≡ nodes_forgot 0 listed
  pub count : length listed ≡ length nodes

-- memory ran out before it was written, or it was written, or a front of it
abbrev pub WritesTail : List PlanNode → List (List (List Forgotten)) → SinkSeen → SinkSeen → Outcome → Type 0
WritesTail nodes listed out out' o = ((o ≡ outcome.OutOfMemory) × (out' ≡ out)) ⊎ WritesText o out out' (tail_of nodes listed)

-- how a stream ends that a refused write broke off
abbrev pub broken_off : Came → Outcome
broken_off came.Done = outcome.Write
broken_off came.Memory = outcome.OutOfMemory
broken_off came.Read = outcome.Write
broken_off (came.Events faulty) = outcome.Write

-- by how the run came to its end, and how much was written, the rest is written, or it is said why there is none
abbrev pub EndsStream : Came → Progress → List PlanNode → List PortForgotten → SinkSeen → SinkSeen → Outcome → Type 0
EndsStream how progress.Lacked nodes forgotten out out' o = (o ≡ outcome.OutOfMemory) × (out' ≡ out)
EndsStream how progress.Refused nodes forgotten out out' o = (o ≡ broken_off how) × (out' ≡ out)
EndsStream came.Done progress.Whole nodes forgotten out out' o = (listed : List (List (List Forgotten))) → CanTellTail nodes forgotten listed → WritesTail nodes listed out out' o
EndsStream came.Memory progress.Whole nodes forgotten out out' o = (o ≡ outcome.OutOfMemory) × (out' ≡ out)
EndsStream came.Read progress.Whole nodes forgotten out out' o = (o ≡ outcome.Read) × (out' ≡ out)
EndsStream (came.Events faulty) progress.Whole nodes forgotten out out' o = Says o (faulty_text nodes faulty.items) × (out' ≡ out)

-- ---- a run

-- What is reported of a plan's workers over the sources that its files name. As they were found these had no fault.
pub record IsReported {S : Type 0} (rest : S → Option (List ℕ)) (faults : S → ℕ) (content : Contents) (nodes : List PlanNode) (report : Report S) : Type 0 where
  pub sources : List S
  pub reported : IsReport rest faults nodes sources report
  pub count : length sources ≡ source_count nodes
  pub fresh : All (λ (s : S). faults s ≡ 0) sources
  pub found : AreFound rest content nodes sources

-- The same of a run whose changes were written as they came: `by` says how much of them.
pub record IsStreamed {S : Type 0} (rest : S → Option (List ℕ)) (faults : S → ℕ) (content : Contents) (nodes : List PlanNode) (report : Report S) (by : Progress) (out out' : SinkSeen) : Type 0 where
  pub run : IsReported rest faults content nodes report
  pub list : List Change
  pub so_far : IsSoFar rest faults nodes run.sources report.sources.items list
  pub wrote : WroteList by out out' list
  pub whole : report.outcome ≡ came.Done → WroteList by out out' report.changes.items
  pub counts : out.faults < last_count

-- the text that is written at the end, or that of the changes as they come, of what went over the edges
abbrev pub AnswersBy : Job → (List ℕ → List ℕ) → List PlanNode → List Carried → List Ran → List ℕ → Type 0
AnswersBy Stream told nodes edges ran text = AnswersStream told nodes edges ran text
AnswersBy job told nodes edges ran text = AnswersRun told nodes edges ran text

-- the text of which a front is written where writing or memory fails
abbrev pub BeginsBy : Job → (List ℕ → List ℕ) → List PlanNode → List Carried → List Ran → List ℕ → Type 0
BeginsBy Stream told nodes edges ran text = BeginsPlan Stream told nodes text
BeginsBy job told nodes edges ran text = AnswersRun told nodes edges ran text

-- such a text was written, where it is known what the files hold
pub record GaveRun (job : Job) (content : Contents) (nodes : List PlanNode) (edges : List Carried) (ran : List Ran) (out out' : SinkSeen) : Type 0 where
  pub text : List ℕ
  pub answers : (told : List ℕ → List ℕ) → AreTold content told (source_files nodes) → AnswersBy job told nodes edges ran text
  pub wrote : Appends out.written out'.written text

-- and a front of such a text
pub record BeganRun (job : Job) (content : Contents) (nodes : List PlanNode) (edges : List Carried) (ran : List Ran) (out out' : SinkSeen) : Type 0 where
  pub text : List ℕ
  pub begins : (told : List ℕ → List ℕ) → AreTold content told (source_files nodes) → BeginsBy job told nodes edges ran text
  pub wrote : AppendsFront out.written out'.written text

-- a front of the changes of a partial run was written
pub record WroteSome (content : Contents) (nodes : List PlanNode) (out out' : SinkSeen) : Type 0 where
  pub text : List ℕ
  pub begins : (told : List ℕ → List ℕ) → AreTold content told (source_files nodes) → StreamsSoFar told nodes text
  pub wrote : AppendsFront out.written out'.written text

-- nothing was written, or of a stream such a front
abbrev pub IsSilentBy : Job → Contents → List PlanNode → SinkSeen → SinkSeen → Type 0
IsSilentBy job content nodes out out' = Keeps out.written out'.written ⊎ ((job ≡ Stream) × WroteSome content nodes out out')

-- how the run of an opened plan ends. Its changes are written as they come, or its rows at the end
abbrev pub RunEnds : Job → List PlanNode → FilesSeen → FilesSeen → SinkSeen → SinkSeen → List Carried → List Ran → Outcome → Type 0
RunEnds job nodes files files' out out' edges ran outcome.Done = NoneRose files files' out out' × GaveRun job files.content nodes edges ran out out'
RunEnds job nodes files files' out out' edges ran (outcome.Events said) = NoneRose files files' out out' × IsSilentBy job files.content nodes out out' × ((told : List ℕ → List ℕ) → AreTold files.content told (source_files nodes) → RefusesSources told nodes said.items)
RunEnds job nodes files files' out out' edges ran outcome.Read = (files.faults < files'.faults) × (out'.faults ≡ out.faults) × IsSilentBy job files.content nodes out out'
RunEnds job nodes files files' out out' edges ran outcome.Write = (out.faults < out'.faults) × BeganRun job files.content nodes edges ran out out'
RunEnds job nodes files files' out out' edges ran outcome.OutOfMemory = Keeps out.written out'.written ⊎ BeganRun job files.content nodes edges ran out out'
RunEnds job nodes files files' out out' edges ran outcome.Usage = ⊥
RunEnds job nodes files files' out out' edges ran (outcome.BadPlan kind node) = ⊥
RunEnds job nodes files files' out out' edges ran (outcome.Unsaved node) = ⊥
RunEnds job nodes files files' out out' edges ran (outcome.BadCheckpoint line) = ⊥

-- ---- what `run`, `stream` and `pool` answer besides

-- the commands that turn the workers of their plan on threads
abbrev pub IsThreaded : Job → Type 0
IsThreaded Run = Unit {0}
IsThreaded (Pool n) = IsNumbered (Pool n)
IsThreaded Stream = Unit {0}
IsThreaded job = ⊥

-- no edge was closed, and no worker took a turn
abbrev pub AreBare : List Carried → List Ran → Type 0
AreBare edges ran = (edges ≡ []) × (ran ≡ [])

-- the text that was written is that of what went over these edges
abbrev pub WroteRun : FilesSeen → Command → SinkSeen → SinkSeen → List Carried → List Ran → Type 0
WroteRun files command out out' edges ran = Wrote files command out out' (λ told text. OfPlan files.content told command.file (λ nodes. AnswersBy command.job told nodes edges ran text))

-- where `run PLAN`, `stream PLAN` or `pool N PLAN` is done the edges and the turns are those of its text; all other words have none
abbrev pub HasRun : Option Command → FilesSeen → SinkSeen → SinkSeen → Status → List Carried → List Ran → Type 0
HasRun None files out out' s edges ran = AreBare edges ran
HasRun (Some command) files out out' s edges ran = has_run command.job where
  has_run : Job → Type 0
  has_run Run = s ≡ status.Done → WroteRun files command out out' edges ran
  has_run (Pool n) = s ≡ status.Done → WroteRun files command out out' edges ran
  has_run Stream = s ≡ status.Done → WroteRun files command out out' edges ran
  has_run job = AreBare edges ran
