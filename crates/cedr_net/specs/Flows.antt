-- A network's nodes and edges, and the lists that went over them.
use Rattle.std.specs.Prelude.{ℕ, ◌≡◌, ◌<◌, List, [], ◌∷◌, ◌++◌, length, map, replicate, slice_index_or, slice_set, sum_by, Some, None, true, false}
use Rattle.std.specs.List.{slice_get}
use Rattle.cedr_base.specs.declared.change.Message.{Message}
use Rattle.cedr_base.specs.Messages.{IsLegal}
use Rattle.node_laws.specs.Lists.{Lists, list_at, with_more}
use Rattle.cedr_node.specs.declared.node.Node.{Node}
use Rattle.cedr_node.specs.Nodes.{made_of, port_count, NodeStands}
use Rattle.cedr_plan.specs.declared.plan.PlanNode.{PlanNode}
use Rattle.cedr_plan.specs.Drawn.{node_of}
use Rattle.cedr_plan.specs.Rules.{AreNodes}
use Rattle.plan_runs.specs.Runs.{lists_at}
use Rattle.cedr_plan.specs.Places.{is_source}
use Rattle.cedr_net.specs.declared.work.Work.{Work}
use Rattle.cedr_net.specs.Edges.{AreSized, lists_joined}

-- the nodes that each node reads
abbrev pub reads_of : List PlanNode → List (List ℕ)
reads_of nodes = map (λ (n : PlanNode). n.inputs.items) nodes

-- a node of a plan that is no source has a node made of it, which stands between the lists; a source has none
pub record WorksAt (work : Work) (n : PlanNode) (lists : Lists) (given : List Message) : Type 0 where
  pub other : is_source n.kind ≡ false → (node : Node) × (work.node ≡ Some node) × (node_of (made_of node) ≡ node_of n) × NodeStands node lists given
  pub source : is_source n.kind ≡ true → work.node ≡ None

-- the node at a place went on
pub record IsWorked (old new : List Work) (place : ℕ) (n : PlanNode) (lists : Lists) (given : List Message) : Type 0 where
  pub now : Work
  pub stands_at : new ≡ slice_set old place now
  pub works : WorksAt now n lists given

-- What a network's nodes and edges stand for: the lists that were taken on the ports of each node, and the list that
-- each node gave. On each port what was taken and what waits are the list of the node that it reads.
pub record Flows (nodes : List PlanNode) (reads : List (List ℕ)) (waiting : List Lists) (works : List Work) (ports : List Lists) (given : Lists) : Type 0 where
  pub are : AreNodes [] (map node_of nodes)
  pub reads_are : reads ≡ reads_of nodes
  pub sized : AreSized reads waiting
  pub works_count : length works ≡ length nodes
  pub ports_count : length ports ≡ length nodes
  pub given_count : length given ≡ length nodes
  pub widths : (k : ℕ) → length (lists_at ports k) ≡ length (lists_at waiting k)
  pub edges : (k : ℕ) → lists_joined (lists_at ports k) (lists_at waiting k) ≡ map (list_at given) (slice_index_or reads k [])
  pub work : (before after : List PlanNode) (n : PlanNode) (d : Work) → nodes ≡ before ++ n ∷ after → WorksAt (slice_index_or works (length before) d) n (lists_at ports (length before)) (list_at given (length before))
  pub legal : (k : ℕ) → IsLegal (list_at given k)

-- the lists on the ports with one message more
abbrev pub with_taken : List Lists → ℕ → ℕ → Message → List Lists
with_taken ports place port m = slice_set ports place (with_more (lists_at ports place) port (m ∷ []))

-- a node took the first message of a port, the first one on which a message waited, and gave a piece for it
pub record MovesOn (nodes : List PlanNode) (reads : List (List ℕ)) (waiting waiting' : List Lists) (works' : List Work) (ports : List Lists) (given : Lists) (place port : ℕ) (m : Message) (piece : List Message) : Type 0 where
  pub more : List Message
  pub first : (k : ℕ) → k < port → list_at (lists_at waiting place) k ≡ []
  pub front : list_at (lists_at waiting place) port ≡ m ∷ more
  pub own : lists_at waiting' place ≡ slice_set (lists_at waiting place) port more
  pub earlier : (k : ℕ) → k < place → lists_at waiting' k ≡ lists_at waiting k
  pub flows : Flows nodes reads waiting' works' (with_taken ports place port m) (with_more given place piece)

-- the place is that of a source
abbrev pub IsSourceAt : List PlanNode → ℕ → Type 0
IsSourceAt nodes place = (before after : List PlanNode) (n : PlanNode) → nodes ≡ before ++ n ∷ after → length before ≡ place → is_source n.kind ≡ true

-- how many messages wait on the ports of a node
abbrev pub waiting_count : Lists → ℕ
waiting_count queues = sum_by (λ (q : List Message). length q) queues

-- nothing came on the ports of a node
abbrev pub no_ports : PlanNode → Lists
no_ports n = replicate (length n.inputs.items) []

-- nodes that work as those of a plan, to which nothing came
abbrev pub AllNew : List PlanNode → List Work → Type 0
AllNew [] [] = Unit {0}
AllNew [] (w ∷ works) = ⊥
AllNew (n ∷ nodes) [] = ⊥
AllNew (n ∷ nodes) (w ∷ works) = WorksAt w n (no_ports n) [] × AllNew nodes works

-- there is such a port at a place
abbrev pub PortAt : List Work → ℕ → ℕ → Type 0
PortAt works place port = (node : Node) × (slice_get works place ≡ Some (record { node = Some node })) × (port < port_count node)
