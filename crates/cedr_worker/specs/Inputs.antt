-- What is said of the inputs of a worker.
use Rattle.std.specs.Prelude.{◌≡◌, ◌⊎◌, ℕ, ◌<◌, Bool, true, false, List, [], ◌∷◌, ◌++◌, length, map, slice_index_or, slice_set, sum_by}
use Rattle.atomic_table.specs.Seated.{TableId}
use Rattle.cedr_base.specs.declared.change.Message.{Message}
use Rattle.cedr_edge.specs.Ends.{InEnd, taken_of}
use Rattle.cedr_base.specs.Counters.{raised}
use Rattle.node_laws.specs.Lawful.{is_over}
use Rattle.node_laws.specs.Lists.{Lists}
use Rattle.worker_outlets.specs.Rounds.{Round}

-- the edge of an input
abbrev pub input_edge : InEnd → TableId
input_edge e = e.edge

-- the lists that were taken, in port order
abbrev pub taken_in : List InEnd → Lists
taken_in inputs = map taken_of inputs

-- how many messages were taken, over all inputs
abbrev pub taken_count : List InEnd → ℕ
taken_count inputs = sum_by (λ (e : InEnd). length e.taken) inputs

-- one message was taken from an open input
pub record Took (o n : InEnd) : Type 0 where
  pub message : Message
  pub goes : is_over o.taken ≡ false
  pub taken : n.taken ≡ o.taken ++ message ∷ []

-- the edge of an input stays, and nothing or one message was taken
pub record KeptIn (o n : InEnd) : Type 0 where
  pub edge : n.edge ≡ o.edge
  pub taken : (n.taken ≡ o.taken) ⊎ Took o n

-- nothing was taken. An open input was found empty
pub record Asked (o n : InEnd) : Type 0 where
  pub taken : n.taken ≡ o.taken
  pub empty : is_over o.taken ≡ false → n.refused ≡ raised o.refused

-- each of the first i inputs was asked for a message
abbrev pub TakenSoFar : List InEnd → List InEnd → Bool → ℕ → Type 0
TakenSoFar old new moved i = Round KeptIn Asked Took old new moved i

-- one input was asked for a message
pub record TakenAt (old new : List InEnd) (port : ℕ) (moved : Bool) : Type 0 where
  pub was : InEnd
  pub now : InEnd
  pub there : was ≡ slice_index_or old port was
  pub stands : new ≡ slice_set old port now
  pub kept : KeptIn was now
  pub rested : moved ≡ false → Asked was now
  pub some : moved ≡ true → Took was now

-- something was taken
abbrev pub SomeTaken : List InEnd → List InEnd → Type 0
SomeTaken old new = (k : ℕ) × (k < length old) × ((d : InEnd) → Took (slice_index_or old k d) (slice_index_or new k d))

-- each open input was found empty
abbrev pub AllEmpty : List InEnd → List InEnd → Type 0
AllEmpty old new = (k : ℕ) (d : InEnd) → k < length old → is_over (slice_index_or old k d).taken ≡ false → (slice_index_or new k d).refused ≡ raised (slice_index_or old k d).refused
