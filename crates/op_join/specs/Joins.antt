-- Joins.
use Rattle.std.specs.Prelude.{ℕ, ◌≡◌, List, [], ◌∷◌, ◌++◌, length, Bool, false, nat_lt, min, max, ◌&&◌, if◌then◌else◌}
use Rattle.std.specs.List.Sorted.{IsStrictlySortedBy}
use Rattle.std.specs.Map.{keys_of}
use Rattle.std.specs.Ordering.{nat_cmp}
use Rattle.cedr_base.specs.declared.field.Field.{Field}
use Rattle.cedr_base.specs.declared.row.Row.{Row}
use Rattle.cedr_base.specs.Rows.{AreRows}
use Rattle.cedr_expr.specs.declared.test.Test.{Test}
use Rattle.cedr_expr.specs.Tests.{passes}
use Rattle.cedr_base.specs.declared.change.Change.{Change}
use Rattle.change_laws.specs.Repairs.{IsMoved}
use Rattle.cedr_table.specs.Operators.{Tables, Meaning, table_at, with_table, least_of, CanTake, Gains}
use Rattle.cedr_table.specs.Choices.{chosen}
use Rattle.cedr_table.specs.Counted.{ends_after, SameAmong}
use Rattle.filed_rows.specs.declared.filed.Filed.{Filed}
use Rattle.cedr_expr.specs.Tags.{left_tag, right_tag}
use Rattle.filed_rows.specs.Filed.{Files}
use Rattle.filed_rows.specs.Ends.{AreEnds}

-- which pairs of payloads pass
abbrev pub PairTest : Type 0
PairTest = List Field → List Field → Bool

-- a row where it passes and isn't empty
abbrev pub meet : Bool → List Field → ℕ → ℕ → List Row
meet pass payload begin end = if pass && nat_lt begin end then record { end = end; begin = begin; payload = payload } ∷ [] else []

-- the row of a left row and a right one that pass: it is valid while both are, and has both payloads
abbrev pub rows_joined : PairTest → Row → Row → List Row
rows_joined pass a b = meet (pass a.payload b.payload) (a.payload ++ b.payload) (max a.begin b.begin) (min a.end b.end)

-- the row of a choice of one left row and one right one
abbrev pub joined_rows : PairTest → List Row → List Row
joined_rows pass (a ∷ b ∷ []) = rows_joined pass a b
joined_rows pass rows = []

-- Two ports. There is one row for each pair that passes, and the bound is the least mark. A row may be held that ends
-- after that.
abbrev pub join_of : List Test → Meaning
join_of tests = record {
  ports = 2;
  result = chosen (joined_rows (passes tests));
  bound = λ _ marks. least_of marks;
  may_hold = λ _ marks _ r. ends_after (least_of marks) r;
  echoes = false;
  stateless = false;
}

-- Rows are filed under their tags, with their ends. They are those of a table, but for rows that end by a time.
pub record Keeps (tag : List Field → ℕ) (filed : Filed) (time : ℕ) (table : List Row) : Type 0 where
  pub kept : List Row
  pub same : SameAmong (ends_after time) kept table
  pub rows : AreRows kept
  pub files : Files tag filed.by_tag.entries kept
  pub ends : AreEnds filed.by_tag.entries filed.ends
  pub ordered : IsStrictlySortedBy nat_cmp (keys_of filed.by_tag.entries)

-- both tables are filed under the tags beside left payloads of the width, but for rows that end by the least mark
pub record StandsOnTwo (tests : List Test) (width : ℕ) (left right : Filed) (tables : Tables) (marks : List ℕ) : Type 0 where
  pub table : length tables ≡ 2
  pub mark : length marks ≡ 2
  pub lefts : Keeps (left_tag width tests) left (least_of marks) (table_at tables 0)
  pub rights : Keeps (right_tag width tests) right (least_of marks) (table_at tables 1)

-- a state stands for what a legal change of a port makes of the tables
abbrev pub StandsAfter : (Tables → List ℕ → Type 0) → (Tables → List ℕ → Type 0) → ℕ → Change → Type 0
StandsAfter before after port change = (tables : Tables) (marks : List ℕ) (rows : List Row) → before tables marks → CanTake tables marks port change → IsMoved change (table_at tables port) rows → after (with_table tables port rows) marks

-- a list has gained changes that repair the result where a legal change of a port comes
abbrev pub RepairsAfter : (Tables → List ℕ → Type 0) → Meaning → ℕ → Change → List Change → List Change → Type 0
RepairsAfter before meaning port change earlier later = (tables : Tables) (marks : List ℕ) (rows : List Row) → before tables marks → CanTake tables marks port change → IsMoved change (table_at tables port) rows
    → Gains (meaning.result tables) (meaning.result (with_table tables port rows)) (meaning.bound tables marks) earlier later
