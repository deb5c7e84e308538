-- What a turn tries on each out edge.
use Rattle.std.specs.Prelude.{◌≡◌, ◌≢◌, ◌⊎◌, ℕ, ◌<◌, List, [], length, slice_index_or}
use Rattle.cedr_base.specs.Counters.{raised}
use Rattle.worker_outlets.specs.Outgoing.{Outgoing}
use Rattle.worker_outlets.specs.Outlets.{Put}

-- one message more was sent over an edge, or none was, and then what was pending met a full queue
abbrev pub TriedOn : Outgoing → Outgoing → Type 0
TriedOn o n = Put o n ⊎ ((n.sent ≡ o.sent) × (o.pending ≢ [] → n.refused ≡ raised o.refused))

-- the same of each out edge
abbrev pub AllTried : List Outgoing → List Outgoing → Type 0
AllTried old new = (k : ℕ) (d : Outgoing) → k < length old → TriedOn (slice_index_or old k d) (slice_index_or new k d)
