-- What waits on the ports of nodes.
use Rattle.std.specs.Prelude.{ℕ, ◌≡◌, ◌<◌, ◌+◌, List, [], ◌∷◌, ◌++◌, length, slice_set, nat_eq, if◌then◌else◌}
use Rattle.cedr_base.specs.declared.change.Message.{Message}
use Rattle.node_laws.specs.Lists.{Lists, list_at, with_more}
use Rattle.plan_runs.specs.Runs.{lists_at}

-- what waits on the ports of a node that reads these nodes, where one of them sent messages
abbrev pub received : ℕ → List Message → List ℕ → Lists → Lists
received place ms [] queues = queues
received place ms (i ∷ inputs) [] = []
received place ms (i ∷ inputs) (q ∷ queues) = (if nat_eq i place then q ++ ms else q) ∷ received place ms inputs queues

-- what waits on the ports of all nodes, where one of them sent messages
abbrev pub sent_on : ℕ → List Message → List (List ℕ) → List Lists → List Lists
sent_on place ms [] waiting = waiting
sent_on place ms (inputs ∷ reads) [] = []
sent_on place ms (inputs ∷ reads) (queues ∷ waiting) = received place ms inputs queues ∷ sent_on place ms reads waiting

-- the ports from one on of the node at a place that read the node at another one
abbrev pub readers_on : ℕ → ℕ → ℕ → List ℕ → List (ℕ × ℕ)
readers_on place at port [] = []
readers_on place at port (i ∷ inputs) = (if nat_eq i place then (at, port) ∷ [] else []) ++ readers_on place at (port + 1) inputs

-- the ports that read the node at a place, of the nodes from one on: the edges that leave it
abbrev pub readers_from : ℕ → ℕ → List (List ℕ) → List (ℕ × ℕ)
readers_from place at [] = []
readers_from place at (inputs ∷ reads) = readers_on place at 0 inputs ++ readers_from place (at + 1) reads

-- a message more waits on a port
abbrev pub waits_on : List Lists → ℕ × ℕ → Message → List Lists
waits_on waiting reader m = slice_set waiting reader.0 (with_more (lists_at waiting reader.0) reader.1 (m ∷ []))

-- a message more waits on each of some ports
abbrev pub waits_on_all : List Lists → List (ℕ × ℕ) → Message → List Lists
waits_on_all waiting [] m = waiting
waits_on_all waiting (r ∷ rs) m = waits_on_all (waits_on waiting r m) rs m

-- some messages more wait on each of some ports, one after the other
abbrev pub all_wait : List Lists → List (ℕ × ℕ) → List Message → List Lists
all_wait waiting readers [] = waiting
all_wait waiting readers (m ∷ ms) = all_wait (waits_on_all waiting readers m) readers ms

-- there is such a port
abbrev pub IsPort : List Lists → ℕ × ℕ → Type 0
IsPort waiting reader = (reader.0 < length waiting) × (reader.1 < length (lists_at waiting reader.0))

-- there are such ports
abbrev pub ArePorts : List Lists → List (ℕ × ℕ) → Type 0
ArePorts waiting [] = Unit {0}
ArePorts waiting (r ∷ rs) = IsPort waiting r × ArePorts waiting rs

-- the first message that waits on the first port where one does
pub record IsPulled (old new : Lists) (port : ℕ) (m : Message) : Type 0 where
  pub within : port < length old
  pub front : list_at old port ≡ m ∷ list_at new port
  pub rest : new ≡ slice_set old port (list_at new port)
  pub first : (k : ℕ) → k < port → list_at old k ≡ []

-- nothing waits on any port
abbrev pub NothingWaits : Lists → Type 0
NothingWaits queues = (k : ℕ) → list_at queues k ≡ []

-- what was taken and what waits, port by port
abbrev pub lists_joined : Lists → Lists → Lists
lists_joined [] queues = []
lists_joined (l ∷ ls) [] = []
lists_joined (l ∷ ls) (q ∷ queues) = (l ++ q) ∷ lists_joined ls queues

-- there is a list for each node, and one for each of its ports
abbrev pub AreSized : List (List ℕ) → List Lists → Type 0
AreSized [] [] = Unit {0}
AreSized [] (queues ∷ waiting) = ⊥
AreSized (inputs ∷ reads) [] = ⊥
AreSized (inputs ∷ reads) (queues ∷ waiting) = (length inputs ≡ length queues) × AreSized reads waiting
