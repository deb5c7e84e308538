-- Whole rows that join or leave a result.
use Rattle.std.specs.Prelude.{ℕ, ◌≡◌, ◌++◌, List, [], ◌∷◌, Bool, length, map}
use Rattle.std.specs.List.{filter}
use Rattle.cedr_base.specs.declared.row.Row.{Row}
use Rattle.cedr_base.specs.declared.change.Change.{Change}
use Rattle.cedr_base.specs.declared.change.Change.TheVariants.{Add, Cut}
use Rattle.cedr_base.specs.Rows.{SameRows}
use Rattle.cedr_base.specs.Changes.{puts, takes}
use Rattle.cedr_table.specs.Counted.{SameAmong}
use Rattle.cedr_table.specs.Operators.{Tables, SameTables, table_at, with_table, least_of}
use Rattle.pat_state.specs.declared.answer.Way.{Way}
use Rattle.pat_state.specs.declared.answer.Way.TheVariants.{Comes, Goes}
use Rattle.pat_state.specs.Starts.{all_endless, endless_tables, scope_reaches}

-- a row that comes is added, and one that goes is cut to its begin
abbrev pub answered : Way → Row → Change
answered Comes r = Add r
answered Goes r = Cut r r.begin

-- on each port the bags have the same rows among those that pass a test
abbrev pub AllAmong : (Row → Bool) → Tables → Tables → Type 0
AllAmong p [] [] = Unit {0}
AllAmong p [] (u ∷ us) = ⊥
AllAmong p (t ∷ ts) [] = ⊥
AllAmong p (t ∷ ts) (u ∷ us) = SameAmong p t u × AllAmong p ts us

-- Parameters in range, a mark for each port, and of each port rows, each as if it never ended. They are those of its
-- table, but for rows whose scope ends by the least mark.
pub record StandsByBegin (in_range : Type 0) (scope : ℕ) (kept : Tables) (tables : Tables) (marks : List ℕ) : Type 0 where
  pub range : in_range
  pub table : length tables ≡ length kept
  pub mark : length marks ≡ length kept
  pub left : Tables
  pub same : AllAmong (scope_reaches scope (least_of marks)) left tables
  pub rows : SameTables kept (endless_tables left)

-- on each port the rows whose scope ends by a time were forgotten
abbrev pub AreForgotten : ℕ → ℕ → Tables → Tables → Type 0
AreForgotten scope time [] [] = Unit {0}
AreForgotten scope time [] (u ∷ us) = ⊥
AreForgotten scope time (t ∷ ts) [] = ⊥
AreForgotten scope time (t ∷ ts) (u ∷ us) = SameRows u (filter (scope_reaches scope time) t) × AreForgotten scope time ts us

-- the rows of one port went through a change, of which the begins and the payloads count
pub record IsKeptStep (old new : Tables) (port : ℕ) (change : Change) : Type 0 where
  pub rows : List Row
  pub kept_is : new ≡ with_table old port rows
  pub step : SameRows (rows ++ all_endless (takes change)) (table_at old port ++ all_endless (puts change))

-- besides, some rows were answered, in some order
pub record IsAnswered (kept kept_after : Tables) (port : ℕ) (change : Change) (way : Way) (all : List Row) (before after : List Change) : Type 0 where
  pub kept_step : IsKeptStep kept kept_after port change
  pub found : List Row
  pub same : SameRows found all
  pub answers : after ≡ before ++ map (answered way) found
