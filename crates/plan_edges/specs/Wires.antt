-- The edges of a plan: one for each port of each node, in the order of the nodes and of their ports.
use Rattle.std.specs.Prelude.{ℕ, ◌≡◌, ◌<◌, List, [], ◌∷◌, ◌++◌, length, map, slice_index_or, slice_set, nat_eq, if◌then◌else◌, true, take, drop}
use Rattle.std.specs.List.{flat_map, All}
use Rattle.atomic_table.specs.Seated.{TableId}
use Rattle.cedr_base.specs.declared.change.Message.{Message}
use Rattle.cedr_edge.specs.Ends.{InEnd, OutEnd, Carried, taken_of}
use Rattle.node_laws.specs.Lawful.{is_over}
use Rattle.node_laws.specs.Lists.{Lists, list_at}
use Rattle.cedr_plan.specs.declared.plan.PlanNode.{PlanNode}

-- the node that each edge comes from
abbrev pub froms : List PlanNode → List ℕ
froms nodes = flat_map (λ (n : PlanNode). n.inputs.items) nodes

-- how many ports a node has
abbrev pub node_ports : PlanNode → ℕ
node_ports n = length n.inputs.items

-- the end that takes of an edge over which nothing went
abbrev pub new_in : TableId → InEnd
new_in edge = record { edge = edge; taken = []; refused = 0 }

-- the end that puts of an edge with so much room, over which nothing went
abbrev pub new_out : ℕ → TableId → OutEnd
new_out room edge = record { edge = edge; room = room; sent = []; refused = 0 }

-- the edge of an end that takes
abbrev pub in_edge : InEnd → TableId
in_edge e = e.edge

-- the edge of an end that puts
abbrev pub out_edge : OutEnd → TableId
out_edge e = e.edge

-- the ends that take, in the order of the edges
abbrev pub all_ends : List (List InEnd) → List InEnd
all_ends takers = flat_map (λ (ends : List InEnd). ends) takers

-- the ends that put of the node at a place
abbrev pub puts_at : List (List OutEnd) → ℕ → List OutEnd
puts_at putters place = slice_index_or putters place []

-- of some edges, which come from these nodes, those that come from the node at a place
abbrev pub edges_from : ℕ → List ℕ → List TableId → List TableId
edges_from place [] edges = []
edges_from place (f ∷ fs) [] = []
edges_from place (f ∷ fs) (e ∷ es) = if nat_eq f place then e ∷ edges_from place fs es else edges_from place fs es

-- Each node has an end for each of its ports, and the other ends of the edges that come from it, in their order.
pub record AreWired (nodes : List PlanNode) (takers : List (List InEnd)) (putters : List (List OutEnd)) : Type 0 where
  pub ports : map length takers ≡ map node_ports nodes
  pub nodes_are : length putters ≡ length nodes
  pub edges : (place : ℕ) → map out_edge (puts_at putters place) ≡ edges_from place (froms nodes) (map in_edge (all_ends takers))

-- nothing went over any of them, and each has so much room
pub record AreNew (room : ℕ) (takers : List (List InEnd)) (putters : List (List OutEnd)) : Type 0 where
  pub takes : All (λ (ends : List InEnd). All (λ (e : InEnd). e ≡ new_in e.edge) ends) takers
  pub puts : All (λ (ends : List OutEnd). All (λ (e : OutEnd). e ≡ new_out room e.edge) ends) putters

-- each end was taken from until its list was over
abbrev pub AreOver : List (List InEnd) → Type 0
AreOver takers = All (λ (ends : List InEnd). All (λ (e : InEnd). is_over e.taken ≡ true) ends) takers

-- over each edge that comes from a node went its list
abbrev pub AreSent : Lists → List (List OutEnd) → Type 0
AreSent given putters = (place : ℕ) → All (λ (e : OutEnd). e.sent ≡ list_at given place) (puts_at putters place)

-- The closed edges of a plan, in their order: over each went what was taken in the end, which is the list of the node that it
-- comes from.
pub record AreClosed (nodes : List PlanNode) (takers : List (List InEnd)) (putters : List (List OutEnd)) (edges : List Carried) : Type 0 where
  pub taken : map (λ (e : Carried). e.taken) edges ≡ map taken_of (all_ends takers)
  pub same : map (λ (e : Carried). e.sent) edges ≡ map (λ (e : Carried). e.taken) edges
  pub sent : (given : Lists) → AreSent given putters → map (λ (e : Carried). e.sent) edges ≡ map (list_at given) (froms nodes)

-- what went over each of some edges
abbrev pub carried : List Carried → Lists
carried edges = map (λ (e : Carried). e.taken) edges

-- the lists of the ports of each node, of the lists of all edges
abbrev pub ports_of : List PlanNode → Lists → List Lists
ports_of [] lists = []
ports_of (n ∷ nodes) lists = take (node_ports n) lists ∷ ports_of nodes (drop (node_ports n) lists)

-- ---- how they are made

-- an end more that puts, at the node at a place
abbrev pub more_at : List (List OutEnd) → ℕ → OutEnd → List (List OutEnd)
more_at putters place e = slice_set putters place (puts_at putters place ++ e ∷ [])

-- the ends that put once these edges are made besides, which come from these nodes
abbrev pub wired_on : ℕ → List (List OutEnd) → List ℕ → List TableId → List (List OutEnd)
wired_on room putters [] edges = putters
wired_on room putters (f ∷ fs) [] = putters
wired_on room putters (f ∷ fs) (e ∷ es) = wired_on room (more_at putters f (new_out room e)) fs es

-- an edge more was made, which comes from a node
pub record PortWired (room from : ℕ) (ends ends' : List InEnd) (putters putters' : List (List OutEnd)) : Type 0 where
  pub edge : TableId
  pub takes : ends' ≡ ends ++ new_in edge ∷ []
  pub puts : putters' ≡ more_at putters from (new_out room edge)

-- the edges of some ports were made, which read these nodes
pub record PortsWired (room : ℕ) (froms : List ℕ) (ends : List InEnd) (putters putters' : List (List OutEnd)) : Type 0 where
  pub edges : List TableId
  pub count : length edges ≡ length froms
  pub takes : ends ≡ map new_in edges
  pub puts : putters' ≡ wired_on room putters froms edges

-- the edges of all ports of some nodes were made
pub record NodesWired (room : ℕ) (nodes : List PlanNode) (takers : List (List InEnd)) (putters putters' : List (List OutEnd)) : Type 0 where
  pub edges : List (List TableId)
  pub counts : map length edges ≡ map node_ports nodes
  pub takes : takers ≡ map (map new_in) edges
  pub puts : putters' ≡ wired_on room putters (froms nodes) (flat_map (λ (es : List TableId). es) edges)

-- each of some nodes is one of so many
abbrev pub AreWithin : ℕ → List ℕ → Type 0
AreWithin count places = All (λ (place : ℕ). place < count) places

-- ---- how they are closed

-- the next end that puts of the node at a place belongs to the same edge as an end that takes
pub record IsNextEnd (from : ℕ) (end : InEnd) (putters : List (List OutEnd)) : Type 0 where
  pub first : OutEnd
  pub rest : List OutEnd
  pub there : puts_at putters from ≡ first ∷ rest
  pub edge : first.edge ≡ end.edge

-- the edge of an end that takes was closed: the next end that puts of the node at a place is gone
pub record PortClosed (from : ℕ) (end : InEnd) (putters putters' : List (List OutEnd)) (closed closed' : List Carried) : Type 0 where
  pub first : OutEnd
  pub rest : List OutEnd
  pub there : puts_at putters from ≡ first ∷ rest
  pub gone : putters' ≡ slice_set putters from rest
  pub edge : Carried
  pub appended : closed' ≡ closed ++ edge ∷ []
  pub sent : edge.sent ≡ first.sent
  pub taken : edge.taken ≡ end.taken
  pub same : edge.sent ≡ edge.taken

-- the ends that put of each node are those of the edges that are still to be closed, in their order
abbrev pub AreLeft : List ℕ → List InEnd → List (List OutEnd) → Type 0
AreLeft froms ends putters = (place : ℕ) → map out_edge (puts_at putters place) ≡ edges_from place froms (map in_edge ends)

-- some edges were closed, and what went over them
pub record SomeClosed (froms : List ℕ) (ends : List InEnd) (putters putters' : List (List OutEnd)) (closed closed' : List Carried) : Type 0 where
  pub edges : List Carried
  pub appended : closed' ≡ closed ++ edges
  pub count : length putters' ≡ length putters
  pub taken : map (λ (e : Carried). e.taken) edges ≡ map taken_of ends
  pub same : map (λ (e : Carried). e.sent) edges ≡ map (λ (e : Carried). e.taken) edges
  pub sent : (given : Lists) → AreSent given putters → (map (λ (e : Carried). e.sent) edges ≡ map (list_at given) froms) × AreSent given putters'
