-- What an operator that is driven by messages stands for.
use Rattle.std.specs.Prelude.{ℕ, ◌≡◌, ◌<◌, ◌≤◌, List, [], ◌∷◌, ◌++◌, length, map, true}
use Rattle.cedr_base.specs.declared.row.Row.{Row}
use Rattle.cedr_base.specs.declared.change.Message.{Message}
use Rattle.cedr_base.specs.Rows.{count_of}
use Rattle.cedr_base.specs.Changes.{all_puts}
use Rattle.cedr_base.specs.Messages.{changes_of, mark_of, IsOpen, IsTableOf, MayCome, IsLegal}
use Rattle.change_laws.specs.Repairs.{wrapped}
use Rattle.cedr_table.specs.Operators.{Tables, Meaning, AreTimes, SameTables, OnlyHolds}
use Rattle.node_laws.specs.Lists.{Lists, list_at, with_more, AreTables, IsReal, mark_above}

-- The operator stands for the tables and the marks of the lists that it took on its ports. What it gave is legal, its
-- table is the result at these tables, and each row that it ever put there is one of the result at tables that the
-- lists once had.
pub record DriverWorks (meaning : Meaning) (stands : Tables → List ℕ → Type 0) (marks : List ℕ) (lists : Lists) (given : List Message) : Type 0 where
  pub tables : Tables
  pub are : AreTables lists tables
  pub op : stands tables marks
  pub marks_are : marks ≡ map mark_of lists
  pub times : AreTimes marks
  pub legal : IsLegal given
  pub opened : IsOpen given
  pub table : IsTableOf given (meaning.result tables)
  pub mark : mark_of given ≤ meaning.bound tables marks
  pub real : (r : Row) → 0 < count_of r (all_puts (changes_of given)) → IsReal meaning lists r

-- besides, this is the last mark that it gave
pub record Drives (meaning : Meaning) (stands : Tables → List ℕ → Type 0) (marks : List ℕ) (sent : ℕ) (lists : Lists) (given : List Message) : Type 0 where
  pub works : DriverWorks meaning stands marks lists given
  pub sent_is : sent ≡ mark_of given

-- a message may be taken on this port
pub record MayTake (lists : Lists) (port : ℕ) (m : Message) : Type 0 where
  pub port_is : port < length lists
  pub comes : MayCome (list_at lists port) m

-- messages were taken on a port, and repairs given
pub record IsFed (meaning : Meaning) (stands : Tables → List ℕ → Type 0) (marks : List ℕ) (lists : Lists) (port : ℕ) (taken given before after : List Message) : Type 0 where
  pub gained : List Message
  pub appended : after ≡ before ++ gained
  pub works : DriverWorks meaning stands marks (with_more lists port taken) (given ++ gained)
  pub no_mark : mark_of gained ≡ 0
  pub echo : meaning.echoes ≡ true → gained ≡ wrapped (changes_of taken)

-- Messages were taken on a port, and repairs given, and then a mark where the bound rose: what was given has the
-- bound as its mark and the result as its table, whichever lists stand for the bags of the ports. The operator holds
-- only rows that it may hold.
pub record Answers (meaning : Meaning) (stands : Tables → List ℕ → Type 0) (held : Tables) (marks : List ℕ) (sent sent' : ℕ) (lists : Lists) (port : ℕ) (taken given before after : List Message) : Type 0 where
  pub gained : List Message
  pub appended : after ≡ before ++ gained
  pub drives : Drives meaning stands marks sent' (with_more lists port taken) (given ++ gained)
  pub bound_is : (others : Tables) → SameTables drives.works.tables others → mark_of (given ++ gained) ≡ meaning.bound others marks
  pub table_is : (others : Tables) → SameTables drives.works.tables others → IsTableOf (given ++ gained) (meaning.result others)
  pub holds : (others : Tables) → SameTables drives.works.tables others → OnlyHolds meaning others marks held
  pub echo : meaning.echoes ≡ true → gained ≡ wrapped (changes_of taken) ++ mark_above sent sent'
  pub echo_mark : meaning.echoes ≡ true → marks ≡ sent' ∷ []
