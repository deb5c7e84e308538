-- What contracts see of the two ends of an edge, and of an edge that is closed.
use Rattle.std.specs.Prelude.{ℕ, List, ◌-◌, ◌^◌, min}
use Rattle.atomic_table.specs.Seated.{TableId}
use Rattle.cedr_base.specs.declared.change.Message.{Message}

-- the number that a u64 can say
abbrev pub as_u64 : ℕ → ℕ
as_u64 n = min n (2 ^ 64 - 1)

-- the end that puts: the edge, the room of its queue, all that was sent, and how many puts found it full
pub record OutEnd : Type 0 where
  pub edge : TableId
  pub room : ℕ
  pub sent : List Message
  pub refused : ℕ

-- the end that takes: the edge, all that was taken, and how many takes found it empty
pub record InEnd : Type 0 where
  pub edge : TableId
  pub taken : List Message
  pub refused : ℕ

-- what was taken from an end
abbrev pub taken_of : InEnd → List Message
taken_of e = e.taken

-- a closed edge
pub record Carried : Type 0 where
  pub edge : TableId
  pub sent : List Message
  pub taken : List Message
