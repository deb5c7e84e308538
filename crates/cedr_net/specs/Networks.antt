-- A network, and the lists that went over it.
use Rattle.std.specs.Prelude.{ℕ, ◌≡◌, ◌≢◌, ◌≤◌, ◌<◌, ◌+◌, drop, List, [], ◌∷◌, ◌++◌, length, slice_index_or, slice_set, Bool, true, false}
use Rattle.cedr_base.specs.declared.change.Message.{Message}
use Rattle.cedr_base.specs.declared.row.Row.{Row}
use Rattle.cedr_base.specs.Messages.{changes_of, mark_of, IsTableOf}
use Rattle.cedr_base.specs.Rows.{count_of, in_order}
use Rattle.node_laws.specs.Lists.{Lists, list_at, with_more}
use Rattle.cedr_plan.specs.declared.plan.PlanNode.{PlanNode}
use Rattle.plan_runs.specs.Runs.{lists_at}
use Rattle.cedr_net.specs.declared.answer.Answer.{Answer}
use Rattle.cedr_net.specs.declared.flow.Flow.{Flow}
use Rattle.cedr_net.specs.declared.net.SerialNet.{SerialNet}
use Rattle.cedr_net.specs.declared.stream.StreamNet.{StreamNet}
use Rattle.cedr_net.specs.Keeping.{keeps_all, hands_on, taken_number}
use Rattle.cedr_net.specs.Edges.{readers_from, NothingWaits}
use Rattle.cedr_net.specs.Flows.{reads_of, Flows, IsSourceAt, PortAt, with_taken}
use Rattle.cedr_net.specs.Settling.{AreUpToPort, TakesPortByPort}
use Rattle.cedr_plan.specs.Places.{is_source, output_place}

-- the rows are the table of a list, in canonical order
pub record AreAnswerRows (given : List Message) (rows : List Row) : Type 0 where
  pub table : IsTableOf given rows
  pub ordered : in_order rows ≡ rows

-- The table of a list and, where changes are kept, these. Its rows that end below the list's mark stand in canonical order
-- by themselves.
pub record HoldsAnswer (answer : Answer) (given : List Message) : Type 0 where
  pub changes_are : keeps_all answer.keeps ≡ true → answer.changes.items ≡ changes_of given
  pub table : IsTableOf given (answer.final_rows.items ++ answer.table)
  pub ordered : in_order answer.final_rows.items ≡ answer.final_rows.items
  pub below : (r : Row) → 0 < count_of r answer.final_rows.items → r.end < mark_of given
  pub above : (r : Row) → 0 < count_of r answer.table → mark_of given ≤ r.end

-- some first messages of a list were taken, and these are left
pub record AreUntaken (given : List Message) (first : ℕ) (fresh : List Message) : Type 0 where
  pub within : first ≤ length given
  pub left : fresh ≡ drop first given

-- what is kept of a list: its table, or the messages that weren't taken
pub record IsAnswerOf (answer : Answer) (given : List Message) : Type 0 where
  pub rows : hands_on answer.keeps ≡ false → HoldsAnswer answer given
  pub fresh : hands_on answer.keeps ≡ true → AreUntaken given (taken_number answer.keeps) answer.fresh.items

-- the messages of a list from a number on, up to its end
pub record TakesOn (given : List Message) (from : ℕ) (taken : List Message) : Type 0 where
  pub left : taken ≡ drop from given
  pub ends : from + length taken ≡ length given

-- a network stands for the lists that were taken on the ports of each node of a plan and the list that each node gave:
-- its edges are those of the plan, and its answer and its reach are those of the output
pub record FlowStands (nodes : List PlanNode) (flow : Flow) (ports : List Lists) (given : Lists) : Type 0 where
  pub flows : Flows nodes (reads_of nodes) flow.waiting.items flow.works.items ports given
  pub readers_count : length flow.readers.items ≡ length nodes
  pub readers : (k : ℕ) → k < length nodes → slice_index_or flow.readers.items k [] ≡ readers_from k 0 (reads_of nodes)
  pub output : flow.output ≡ output_place nodes
  pub output_within : output_place nodes < length nodes
  pub unread : readers_from (output_place nodes) 0 (reads_of nodes) ≡ []
  pub one_port : length (lists_at ports (output_place nodes)) ≡ 1
  pub answer : IsAnswerOf flow.answer (list_at given (output_place nodes))
  pub reach : flow.reach ≡ mark_of (list_at (lists_at ports (output_place nodes)) 0)

-- memory ran out in a call
abbrev pub is_net_spent : SerialNet → Bool
is_net_spent net = net.spent

-- the changes that the output gave are kept
abbrev pub keeps_changes : SerialNet → Bool
keeps_changes net = keeps_all net.flow.answer.keeps

-- how many of the messages that the output gave were taken
abbrev pub stream_taken : StreamNet → ℕ
stream_taken net = taken_number net.flow.answer.keeps

-- those that it gave and that weren't taken
abbrev pub stream_left : StreamNet → List Message
stream_left net = net.flow.answer.fresh.items

-- a network stands for such lists, and it is usable
pub record NetStands (nodes : List PlanNode) (net : SerialNet) (ports : List Lists) (given : Lists) : Type 0 where
  pub usable : is_net_spent net ≡ false
  pub stands : FlowStands nodes net.flow ports given

-- what waits on the ports of the node at a place
abbrev pub waiting_at : SerialNet → ℕ → Lists
waiting_at net place = lists_at net.flow.waiting.items place

-- lists that go on
pub record AllGrow (old new : Lists) : Type 0 where
  pub grows : (k : ℕ) → (more : List Message) × (list_at new k ≡ list_at old k ++ more)

-- a node took the first message of the first port on which one waited, and gave a piece for it
pub record IsTurn (nodes : List PlanNode) (old new : Flow) (ports : List Lists) (given : Lists) (place : ℕ) (piece : List Message) : Type 0 where
  pub port : ℕ
  pub message : Message
  pub more : List Message
  pub first : (k : ℕ) → k < port → list_at (lists_at old.waiting.items place) k ≡ []
  pub front : list_at (lists_at old.waiting.items place) port ≡ message ∷ more
  pub own : lists_at new.waiting.items place ≡ slice_set (lists_at old.waiting.items place) port more
  pub earlier : (k : ℕ) → k < place → lists_at new.waiting.items k ≡ lists_at old.waiting.items k
  pub stands : FlowStands nodes new (with_taken ports place port message) (with_more given place piece)

-- what a node took and gave is as before
pub record IsAsBefore (ports ports' : List Lists) (given given' : Lists) (place : ℕ) : Type 0 where
  pub taken : lists_at ports' place ≡ lists_at ports place
  pub gave : list_at given' place ≡ list_at given place

-- each node at these places went on port by port
abbrev pub AllTake : List PlanNode → (ℕ → Type 0) → List Lists → Lists → List Lists → Lists → Type 0
AllTake nodes these ports given ports' given' = (before after : List PlanNode) (n : PlanNode) → nodes ≡ before ++ n ∷ after → is_source n.kind ≡ false → these (length before)
    → TakesPortByPort n (lists_at ports (length before)) (list_at given (length before)) (lists_at ports' (length before)) (list_at given' (length before))

-- The network went on by turns of the node at a place, which it took port by port: no source gave anything, the lists
-- went on, and what waits at earlier places is as before, and so is what the other nodes took and gave.
pub record IsOnTheWay (nodes : List PlanNode) (old new : Flow) (taken : List Lists) (given : Lists) (place : ℕ) : Type 0 where
  pub ports : List Lists
  pub given' : Lists
  pub stands : FlowStands nodes new ports given'
  pub sources : (k : ℕ) → IsSourceAt nodes k → list_at given' k ≡ list_at given k
  pub grow : AllGrow given given'
  pub earlier : (k : ℕ) → k < place → lists_at new.waiting.items k ≡ lists_at old.waiting.items k
  pub others : (k : ℕ) → k ≢ place → IsAsBefore taken ports given given' k
  -- nothing waits on the ports before the last one on which a message was taken
  pub port : ℕ
  pub first : (k : ℕ) → k < port → list_at (lists_at new.waiting.items place) k ≡ []
  pub takes : (before after : List PlanNode) (n : PlanNode) → nodes ≡ before ++ n ∷ after → is_source n.kind ≡ false → length before ≡ place
      → (t : TakesPortByPort n (lists_at taken (length before)) (list_at given (length before)) (lists_at ports (length before)) (list_at given' (length before))) × AreUpToPort port t.steps

-- and nothing waits there
pub record IsDrained (nodes : List PlanNode) (old new : Flow) (taken : List Lists) (given : Lists) (place : ℕ) : Type 0 where
  pub way : IsOnTheWay nodes old new taken given place
  pub empty : NothingWaits (lists_at new.waiting.items place)

-- the network went on by turns until nothing waited at the first places
pub record IsSettledUpTo (nodes : List PlanNode) (new : Flow) (taken : List Lists) (given : Lists) (count : ℕ) : Type 0 where
  pub ports : List Lists
  pub given' : Lists
  pub stands : FlowStands nodes new ports given'
  pub sources : (k : ℕ) → IsSourceAt nodes k → list_at given' k ≡ list_at given k
  pub grow : AllGrow given given'
  pub empty : (k : ℕ) → k < count → NothingWaits (lists_at new.waiting.items k)
  pub others : (k : ℕ) → count ≤ k → IsAsBefore taken ports given given' k
  pub takes : AllTake nodes (λ k. k < count) taken given ports given'

-- A node took the first message of the first port on which one waited, and gave a piece for it; or nothing waited there,
-- and all is as before.
pub record IsNetTurn (nodes : List PlanNode) (old new : SerialNet) (ports : List Lists) (given : Lists) (node : ℕ) (moved : Bool) : Type 0 where
  pub turned : moved ≡ true → (piece : List Message) × IsTurn nodes old.flow new.flow ports given node piece
  pub idle : moved ≡ false → NothingWaits (waiting_at old node) × NetStands nodes new ports given
  pub usable : is_net_spent new ≡ false

-- The network went on from what its nodes had taken and given until nothing waited, and no source gave anything. Each
-- other node took port by port what came to it.
pub record HasSettled (nodes : List PlanNode) (new : SerialNet) (taken : List Lists) (given : Lists) : Type 0 where
  pub ports : List Lists
  pub given' : Lists
  pub stands : NetStands nodes new ports given'
  pub sources : (k : ℕ) → IsSourceAt nodes k → list_at given' k ≡ list_at given k
  pub grow : AllGrow given given'
  pub empty : (k : ℕ) → k < length nodes → NothingWaits (waiting_at new k)
  pub takes : AllTake nodes (λ k. k < length nodes) taken given ports given'

-- the node at a place has such a port
abbrev pub HasPort : SerialNet → ℕ → ℕ → Type 0
HasPort net place port = PortAt net.flow.works.items place port

-- where the lists stand after a turn of the node at a place
pub record TurnsTo (nodes : List PlanNode) (old new : SerialNet) (ports : List Lists) (given : Lists) (place : ℕ) (ports' : List Lists) (given' : Lists) : Type 0 where
  pub moved : Bool
  pub turn : IsNetTurn nodes old new ports given place moved
  pub taken : moved ≡ true → (piece : List Message) × (t : IsTurn nodes old.flow new.flow ports given place piece) × (ports' ≡ with_taken ports place t.port t.message) × (given' ≡ with_more given place piece)
  pub idle : moved ≡ false → (ports' ≡ ports) × (given' ≡ given)

-- the nodes at these places were turned, one after the other
abbrev pub TurnsAlong : List PlanNode → SerialNet → SerialNet → List Lists → Lists → List ℕ → List Lists → Lists → Type 0
TurnsAlong nodes old new ports given [] ports' given' = (new ≡ old) × (ports' ≡ ports) × (given' ≡ given)
TurnsAlong nodes old new ports given (place ∷ places) ports' given' = (next : SerialNet) × (ports₁ : List Lists) × (given₁ : Lists) × TurnsTo nodes old next ports given place ports₁ given₁ × TurnsAlong nodes next new ports₁ given₁ places ports' given'

-- the nodes at these places were turned, one after the other: the network stands for the lists then, and no
-- source gave anything
pub record IsScheduled (nodes : List PlanNode) (old new : SerialNet) (ports : List Lists) (given : Lists) (places : List ℕ) : Type 0 where
  pub ports' : List Lists
  pub given' : Lists
  pub turns : TurnsAlong nodes old new ports given places ports' given'
  pub stands : NetStands nodes new ports' given'
  pub sources : (k : ℕ) → IsSourceAt nodes k → list_at given' k ≡ list_at given k
