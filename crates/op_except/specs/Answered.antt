-- What a change of a port has to be answered by.
use Rattle.std.specs.Prelude.{ℕ, ◌≡◌, ◌<◌, ◌≤◌, List, ◌++◌}
use Rattle.cedr_base.specs.declared.row.Row.{Row}
use Rattle.cedr_base.specs.declared.change.Change.{Change}
use Rattle.cedr_base.specs.Rows.{count_of}
use Rattle.cedr_base.specs.Changes.{all_takes}
use Rattle.change_laws.specs.Repairs.{IsMoved, Repair}
use Rattle.cedr_table.specs.Operators.{Tables, table_at, with_table, CanTake, Gains, least_of}
use Rattle.cedr_expr.specs.declared.test.Test.{Test}
use Rattle.op_except.specs.declared.except.Except.{Except}
use Rattle.op_except.specs.Parts.{all_excepted, growing_from}
use Rattle.op_except.specs.Standing.{SidesStand, ExceptStands}

-- The sides stand for the tables after the change, and the list has gained what repairs the result. No row is cut of it that
-- ends before the least mark.
pub record ExceptAnswered (tests : List Test) (new : Except) (tables : Tables) (marks : List ℕ) (port : ℕ) (after : List Row) (before later : List Change) : Type 0 where
  pub stands : SidesStand new (with_table tables port after) marks
  pub changes : List Change
  pub appended : later ≡ before ++ changes
  pub repair : Repair (all_excepted tests tables) (all_excepted tests (with_table tables port after)) (growing_from (least_of marks) (all_excepted tests tables)) changes
  pub there : (r : Row) → count_of r (all_takes changes) ≤ count_of r (all_excepted tests tables)
  pub taken : (r : Row) → 0 < count_of r (all_takes changes) → least_of marks ≤ r.end

-- of all tables and marks that the sides stood for
abbrev pub ExceptAnswers : Except → Except → ℕ → Change → List Change → List Change → Type 0
ExceptAnswers old new port change before later = (tables : Tables) (marks : List ℕ) (after : List Row) → SidesStand old tables marks → CanTake tables marks port change → IsMoved change (table_at tables port) after → ExceptAnswered old.tests new tables marks port after before later

-- a state stands for what a legal change of a port makes of the tables
abbrev pub StandsLater : Except → Except → ℕ → Change → Type 0
StandsLater old new port change = (tables : Tables) (marks : List ℕ) (after : List Row) → ExceptStands old tables marks → CanTake tables marks port change → IsMoved change (table_at tables port) after → ExceptStands new (with_table tables port after) marks

-- a list has gained changes that repair the result where a legal change of a port comes
abbrev pub ExceptRepairs : Except → ℕ → Change → List Change → List Change → Type 0
ExceptRepairs old port change before later = (tables : Tables) (marks : List ℕ) (after : List Row) → ExceptStands old tables marks → CanTake tables marks port change → IsMoved change (table_at tables port) after
    → Gains (all_excepted old.tests tables) (all_excepted old.tests (with_table tables port after)) (growing_from (least_of marks) (all_excepted old.tests tables)) before later
