-- A list of messages for each port.
use Rattle.std.specs.Prelude.{ℕ, ◌≡◌, ◌<◌, List, [], ◌∷◌, ◌++◌, slice_index_or, slice_set, nat_lt, if◌then◌else◌}
use Rattle.cedr_base.specs.declared.row.Row.{Row}
use Rattle.cedr_base.specs.declared.change.Message.{Message}
use Rattle.cedr_base.specs.declared.change.Message.TheVariants as message
use Rattle.cedr_base.specs.Rows.{count_of}
use Rattle.cedr_base.specs.Messages.{IsTableOf}
use Rattle.cedr_table.specs.Operators.{Tables, Meaning}

-- a list of messages for each port
abbrev pub Lists : Type 0
Lists = List (List Message)

-- the list of a port, and an empty one where there is no such port
abbrev pub list_at : Lists → ℕ → List Message
list_at lists port = slice_index_or lists port []

-- the lists with more messages on a port
abbrev pub with_more : Lists → ℕ → List Message → Lists
with_more lists port ms = slice_set lists port (list_at lists port ++ ms)

-- each table is that of its list
abbrev pub AreTables : Lists → Tables → Type 0
AreTables [] [] = Unit {0}
AreTables [] (t ∷ ts) = ⊥
AreTables (l ∷ ls) [] = ⊥
AreTables (l ∷ ls) (t ∷ ts) = IsTableOf l t × AreTables ls ts

-- the table is that of the first messages of a list
pub record IsTableOfPrefix (ms : List Message) (rows : List Row) : Type 0 where
  pub before : List Message
  pub after : List Message
  pub whole : ms ≡ before ++ after
  pub table : IsTableOf before rows

-- each table is that of the first messages of its list
abbrev pub AreTablesOfPrefixes : Lists → Tables → Type 0
AreTablesOfPrefixes [] [] = Unit {0}
AreTablesOfPrefixes [] (t ∷ ts) = ⊥
AreTablesOfPrefixes (l ∷ ls) [] = ⊥
AreTablesOfPrefixes (l ∷ ls) (t ∷ ts) = IsTableOfPrefix l t × AreTablesOfPrefixes ls ts

-- a row is one of the result at the tables that the lists once had
pub record IsReal (meaning : Meaning) (lists : Lists) (r : Row) : Type 0 where
  pub tables : Tables
  pub prefixes : AreTablesOfPrefixes lists tables
  pub there : 0 < count_of r (meaning.result tables)

-- a mark, where it is above another one
abbrev pub mark_above : ℕ → ℕ → List Message
mark_above old t = if nat_lt old t then message.Mark t ∷ [] else []
