-- The laws of an operator's meaning and of what its state stands for.
use Rattle.std.specs.Prelude.{ℕ, ◌≡◌, ◌≤◌, List, [], ◌∷◌, length, replicate, true}
use Rattle.cedr_base.specs.declared.time.TheConstants.{FOREVER}
use Rattle.cedr_base.specs.declared.row.Row.{Row}
use Rattle.cedr_base.specs.declared.change.Change.{Change}
use Rattle.cedr_base.specs.Rows.{SameRows}
use Rattle.change_laws.specs.Repairs.{IsMoved}
use Rattle.cedr_table.specs.Operators.{Tables, Meaning, table_at, with_table, CanTake, AllRise, AreTimes, SameTables}

-- What holds of an operator's meaning, and of the tables and marks that its state stands for.
-- sized: there are a table and a mark for each port.
-- rising: what stands for some marks stands for greater ones.
-- alike: the state stands for bags.
-- same_rows: the result depends on bags alone.
-- nothing: nothing comes of empty tables.
-- bound_rises: the bound never falls while the marks rise.
-- bound_stays: nor when a legal change comes.
-- bound_is_time: the bound isn't above FOREVER.
-- echo_bound: what echoes has one port, and its bound is that port's mark.
pub record OperatorLaws (meaning : Meaning) (stands : Tables → List ℕ → Type 0) : Type 0 where
  pub sized : (tables : Tables) (marks : List ℕ) → stands tables marks → (length tables ≡ meaning.ports) × (length marks ≡ meaning.ports)
  pub rising : (tables : Tables) (marks later : List ℕ) → stands tables marks → AllRise marks later → stands tables later
  pub alike : (tables others : Tables) (marks : List ℕ) → SameTables tables others → stands tables marks → stands others marks
  pub same_rows : (tables others : Tables) → SameTables tables others → SameRows (meaning.result tables) (meaning.result others)
  pub nothing : SameRows (meaning.result (replicate meaning.ports [])) []
  pub bound_rises : (tables : Tables) (marks later : List ℕ) → stands tables marks → AllRise marks later → meaning.bound tables marks ≤ meaning.bound tables later
  pub bound_stays : (tables : Tables) (marks : List ℕ) (port : ℕ) (change : Change) (after : List Row) → stands tables marks → CanTake tables marks port change → IsMoved change (table_at tables port) after → meaning.bound tables marks ≤ meaning.bound (with_table tables port after) marks
  pub bound_is_time : (tables : Tables) (marks : List ℕ) → stands tables marks → AreTimes marks → meaning.bound tables marks ≤ FOREVER
  pub echo_bound : (tables : Tables) (marks : List ℕ) → meaning.echoes ≡ true → stands tables marks → marks ≡ meaning.bound tables marks ∷ []
