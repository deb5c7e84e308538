-- Sources that are fed to a network, each line of a source after the one before it.
use Rattle.std.specs.Prelude.{ℕ, ◌≡◌, ◌≢◌, ◌<◌, Bool, List, ◌∷◌, ◌++◌, length, take, drop, sum_by}
use Rattle.cedr_base.specs.declared.change.Message.{Message}
use Rattle.cedr_base.specs.Messages.{IsLegal}
use Rattle.cedr_guard.specs.Messages.{messages_in}
use Rattle.cedr_table.specs.Operators.{Tables}
use Rattle.node_laws.specs.Lists.{Lists, list_at}
use Rattle.cedr_plan.specs.declared.plan.PlanNode.{PlanNode}
use Rattle.plan_runs.specs.Runs.{sources_in, IsRun}
use Rattle.cedr_net.specs.declared.net.SerialNet.{SerialNet}
use Rattle.cedr_net.specs.Edges.{NothingWaits}
use Rattle.cedr_net.specs.Flows.{IsSourceAt}
use Rattle.cedr_net.specs.Networks.{NetStands, waiting_at}
use Rattle.plan_answer.specs.Queries.{IsAnswerText}
use Rattle.plan_serial.specs.Rounds.{ByLine, entries_at, all_messages, CameInRounds, CameByLine}

-- The entries of each node of a plan. Their messages are legal, and a node that has an entry is a source.
pub record AreSources (nodes : List PlanNode) (whole : ByLine) : Type 0 where
  pub count : length whole ≡ length nodes
  pub legal : (k : ℕ) → IsLegal (messages_in (entries_at whole k))
  pub others : (k : ℕ) (entry : List Message) (more : List (List Message)) → entries_at whole k ≡ entry ∷ more → IsSourceAt nodes k

-- how many entries are left
abbrev pub left_count : ByLine → ℕ
left_count left = sum_by (λ (entries : List (List Message)). length entries) left

-- entries without the first one
abbrev pub behind_first : List (List Message) → List (List Message)
behind_first entries = drop 1 entries

-- nothing waits on any port of a network
abbrev pub IsSettledAt : List PlanNode → SerialNet → Type 0
IsSettledAt nodes net = (k : ℕ) → k < length nodes → NothingWaits (waiting_at net k)

-- a network after so many rounds, and the entries that are left
pub record StandsAfterRounds (nodes : List PlanNode) (net : SerialNet) (left whole : ByLine) (rounds : ℕ) : Type 0 where
  pub ports : List Lists
  pub given : Lists
  pub stands : NetStands nodes net ports given
  pub sources : AreSources nodes whole
  pub wide : length left ≡ length nodes
  pub left_are : (k : ℕ) → entries_at left k ≡ drop rounds (entries_at whole k)
  pub came : CameInRounds nodes whole rounds ports given

-- The run of a plan over whole sources: what went over the network are the lists of a run, each source gave all its
-- messages, and they came in rounds.
pub record IsWholeRun (nodes : List PlanNode) (net : SerialNet) (whole : ByLine) : Type 0 where
  pub ports : List Lists
  pub given : Lists
  pub stands : NetStands nodes net ports given
  pub settled : IsSettledAt nodes net
  pub sources : sources_in nodes given ≡ sources_in nodes (all_messages whole)
  pub run : IsRun nodes (sources_in nodes (all_messages whole)) ports given
  pub came : CameByLine nodes whole ports given

-- the text of an answer, whose lists came in rounds of these entries
pub record AnswersInRounds (always : Bool) (nodes : List PlanNode) (lines : ByLine) (histories : Tables) (text : List ℕ) : Type 0 where
  pub text_is : IsAnswerText always nodes (sources_in nodes (all_messages lines)) histories text
  pub rounds : CameByLine nodes lines text_is.ports text_is.given

-- ---- within a round

-- what is left of each node may come after what it gave, and a node of which something is left is a source
pub record MayBeFed (nodes : List PlanNode) (given : Lists) (left : ByLine) : Type 0 where
  pub count : length left ≡ length nodes
  pub legal : (k : ℕ) → k < length nodes → IsSourceAt nodes k → IsLegal (list_at given k ++ messages_in (entries_at left k))
  pub others : (k : ℕ) (entry : List Message) (more : List (List Message)) → entries_at left k ≡ entry ∷ more → IsSourceAt nodes k

-- the node at a place was fed the messages of its first entry
pub record FeedsOne (nodes : List PlanNode) (net : SerialNet) (ports : List Lists) (given : Lists) (place : ℕ) (left left' : ByLine) : Type 0 where
  pub given' : Lists
  pub stands : NetStands nodes net ports given'
  pub may : MayBeFed nodes given' left'
  pub fed : list_at given' place ≡ list_at given place ++ messages_in (take 1 (entries_at left place))
  pub others : (k : ℕ) → k ≢ place → list_at given' k ≡ list_at given k

-- and so was each node
pub record FeedsEach (nodes : List PlanNode) (net : SerialNet) (ports : List Lists) (given : Lists) (left left' : ByLine) : Type 0 where
  pub given' : Lists
  pub stands : NetStands nodes net ports given'
  pub may : MayBeFed nodes given' left'
  pub fed : (k : ℕ) → list_at given' k ≡ list_at given k ++ messages_in (take 1 (entries_at left k))
