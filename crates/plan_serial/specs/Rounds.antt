-- In which rounds the sources of a plan were fed.
use Rattle.std.specs.Prelude.{ℕ, ◌≡◌, ◌≤◌, ◌<◌, ◌+◌, zero, suc, List, [], length, map, take, slice_index_or}
use Rattle.cedr_base.specs.declared.change.Message.{Message}
use Rattle.cedr_guard.specs.Messages.{messages_in}
use Rattle.node_laws.specs.Lists.{Lists, list_at}
use Rattle.cedr_plan.specs.declared.plan.PlanNode.{PlanNode}
use Rattle.plan_runs.specs.Runs.{sources_in, IsRun}
use Rattle.cedr_net.specs.Flows.{IsSourceAt, no_ports}
use Rattle.cedr_net.specs.Networks.{AllGrow, AllTake}

-- the messages of each node of a plan line by line, by its place: what is no source has none
abbrev pub ByLine : Type 0
ByLine = List (List (List Message))

-- the entries of the node at a place
abbrev pub entries_at : ByLine → ℕ → List (List Message)
entries_at lines place = slice_index_or lines place []

-- the messages that the entries of each node hold
abbrev pub all_messages : ByLine → Lists
all_messages lines = map messages_in lines

-- From the lists of a run to those after one round more, of this number. Each source that has an entry of this number gave
-- the messages that it holds. Each other node took what came to it port by port. The lists went on, and
-- are those of a run of the plan over what the sources gave so far.
pub record IsRound (nodes : List PlanNode) (lines : ByLine) (number : ℕ) (ports : List Lists) (given : Lists) (ports' : List Lists) (given' : Lists) : Type 0 where
  pub fed : (k : ℕ) → k < length nodes → IsSourceAt nodes k → list_at given' k ≡ messages_in (take (number + 1) (entries_at lines k))
  pub takes : AllTake nodes (λ k. k < length nodes) ports given ports' given'
  pub grow : AllGrow given given'
  pub run : IsRun nodes (sources_in nodes given') ports' given'

-- what the nodes took on their ports and gave in so many rounds, before which they took and gave nothing
abbrev pub CameInRounds : List PlanNode → ByLine → ℕ → List Lists → Lists → Type 0
CameInRounds nodes lines zero ports given = (ports ≡ map no_ports nodes) × ((k : ℕ) → list_at given k ≡ [])
CameInRounds nodes lines (suc number) ports given = (before : List Lists) × (gave : Lists) × CameInRounds nodes lines number before gave × IsRound nodes lines number before gave ports given

-- the same, where the sources have no entry behind the last round
pub record CameByLine (nodes : List PlanNode) (lines : ByLine) (ports : List Lists) (given : Lists) : Type 0 where
  pub rounds : ℕ
  pub all : (k : ℕ) → length (entries_at lines k) ≤ rounds
  pub came : CameInRounds nodes lines rounds ports given
