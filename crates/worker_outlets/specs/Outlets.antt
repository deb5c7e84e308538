-- What is said of out edges.
use Rattle.std.specs.Prelude.{◌≡◌, ◌≢◌, ◌⊎◌, ℕ, ◌+◌, ◌<◌, Bool, false, true, List, [], ◌++◌, length, slice_index_or, sum_by}
use Rattle.std.specs.List.{All}
use Rattle.atomic_table.specs.Seated.{TableId}
use Rattle.cedr_base.specs.declared.change.Message.{Message}
use Rattle.cedr_edge.specs.Ends.{OutEnd}
use Rattle.cedr_base.specs.Counters.{raised}
use Rattle.node_laws.specs.Lawful.{is_over}
use Rattle.worker_outlets.specs.Outgoing.{Outgoing}
use Rattle.worker_outlets.specs.Rounds.{Swept, Round}

-- all that is meant for an edge
abbrev pub total_of : Outgoing → List Message
total_of o = o.sent ++ o.pending

-- which edge an out edge is, by the table of its queue
abbrev pub outlet_edge : Outgoing → TableId
outlet_edge o = o.edge

-- what was sent over an out edge
abbrev pub sent_of : Outgoing → List Message
sent_of o = o.sent

-- an edge over which nothing went
abbrev pub opened : OutEnd → Outgoing
opened e = record { edge = e.edge; sent = []; pending = []; staged = []; refused = e.refused }

-- the edge, what was sent and how many puts were refused
abbrev pub bare : Outgoing → Outgoing
bare o = record o { pending = []; staged = [] }

-- the edge, all that is meant for it and what is set down stay
pub record Kept (o n : Outgoing) : Type 0 where
  pub edge : n.edge ≡ o.edge
  pub total : total_of n ≡ total_of o
  pub staged : n.staged ≡ o.staged

-- nothing was put. What is pending met a full queue
pub record Rested (o n : Outgoing) : Type 0 where
  pub sent : n.sent ≡ o.sent
  pub pending : n.pending ≡ o.pending
  pub full : o.pending ≢ [] → n.refused ≡ raised o.refused

-- one message was put
abbrev pub Put : Outgoing → Outgoing → Type 0
Put o n = length n.sent ≡ length o.sent + 1

-- a put was tried: it was taken, or refused where something is pending
pub record Tried (o n : Outgoing) : Type 0 where
  pub kept : Kept o n
  pub either : Rested o n ⊎ Put o n

-- each of the first i edges had its put
abbrev pub PutSoFar : List Outgoing → List Outgoing → Bool → ℕ → Type 0
PutSoFar old new moved i = Round Tried Rested Put old new moved i

-- nothing is pending for the first i of the edges
abbrev pub NonePending : List Outgoing → ℕ → Type 0
NonePending os i = (k : ℕ) (d : Outgoing) → k < i → k < length os → (slice_index_or os k d).pending ≡ []

-- something is pending for one of the first i edges
abbrev pub SomePending : List Outgoing → ℕ → Type 0
SomePending os i = (k : ℕ) × (k < i) × (k < length os) × ((d : Outgoing) → (slice_index_or os k d).pending ≢ [])

-- these messages are meant for each edge
abbrev pub AllTotal : List Message → List Outgoing → Type 0
AllTotal given os = All (λ (o : Outgoing). total_of o ≡ given) os

-- these messages are set down at each edge
abbrev pub AllStaged : List Message → List Outgoing → Type 0
AllStaged piece os = All (λ (o : Outgoing). o.staged ≡ piece) os

-- these messages are set down at the first i edges, those at the others
abbrev pub StagedUpTo : List Message → List Message → List Outgoing → ℕ → Type 0
StagedUpTo piece before os i = Swept (λ (o : Outgoing). o.staged ≡ piece) (λ (o : Outgoing). o.staged ≡ before) os i

-- each edge has its End or Broken
abbrev pub AllOver : List Outgoing → Type 0
AllOver os = All (λ (o : Outgoing). is_over o.sent ≡ true) os

-- some edge has neither its End nor Broken
abbrev pub SomeOpen : List Outgoing → Type 0
SomeOpen os = (k : ℕ) × (k < length os) × ((d : Outgoing) → is_over (slice_index_or os k d).sent ≡ false)

-- something was put on an edge
abbrev pub SomePut : List Outgoing → List Outgoing → Type 0
SomePut old new = (k : ℕ) × (k < length old) × ((d : Outgoing) → Put (slice_index_or old k d) (slice_index_or new k d))

-- a pending message met a full queue
abbrev pub SomeFull : List Outgoing → List Outgoing → Type 0
SomeFull old new = (k : ℕ) × (k < length old) × ((d : Outgoing) → ((slice_index_or new k d).pending ≢ []) × ((slice_index_or new k d).refused ≡ raised (slice_index_or old k d).refused))

-- how many messages were sent, over all edges
abbrev pub sent_count : List Outgoing → ℕ
sent_count os = sum_by (λ (o : Outgoing). length o.sent) os

-- the edge of an end
abbrev pub end_edge : OutEnd → TableId
end_edge e = e.edge

-- what was sent over the edge of an end
abbrev pub end_sent : OutEnd → List Message
end_sent e = e.sent
