-- The laws of joins.
use Rattle.std.proofs.Common.{ℕ, ◌≤◌, List, ◌∙◌, arith}
use Rattle.cedr_base.specs.declared.field.Field.{Field}
use Rattle.cedr_base.specs.declared.row.Row.{Row}
use Rattle.cedr_base.specs.Rows.{SameRows}
use Rattle.cedr_expr.specs.declared.test.Test.{Test}
use Rattle.cedr_table.specs.Operators.{Tables, AllRise, SameTables}
use Rattle.cedr_table.specs.PortLaws.{rise_length, same_length, same_at, least_rises, least_is_time}
use Rattle.cedr_table.specs.OperatorLaws.{OperatorLaws}
use Rattle.cedr_table.proofs.ChoiceLemmas.{same_chosen, nothing_chosen}
use Rattle.cedr_table.specs.Counted.{ends_after}
use Rattle.cedr_table.proofs.FilterLemmas.{among_along, among_same, among_fewer, ends_earlier}
use Rattle.cedr_expr.specs.Tests.{passes}
use Rattle.filed_rows.specs.declared.filed.Filed.{Filed}
use Rattle.op_join.specs.Joins.{Keeps, StandsOnTwo, join_of, joined_rows}

-- what is kept of a table is kept of each list of it
keeps_alike : (tag : List Field → ℕ) (filed : Filed) (time : ℕ) (table other : List Row) → SameRows table other → Keeps tag filed time table → Keeps tag filed time other
keeps_alike tag filed time table other same h = record {
  kept = h.kept;
  same = among_along (ends_after time) h.kept table other h.same (among_same (ends_after time) table other same);
  rows = h.rows;
  files = h.files;
  ends = h.ends;
  ordered = h.ordered;
}

-- and at each later time
keeps_later : (tag : List Field → ℕ) (filed : Filed) (time later : ℕ) (table : List Row) → time ≤ later → Keeps tag filed time table → Keeps tag filed later table
keeps_later tag filed time later table rise h = record {
  kept = h.kept;
  same = among_fewer (ends_after time) (ends_after later) h.kept table (λ r late. ends_earlier time later r rise late) h.same;
  rows = h.rows;
  files = h.files;
  ends = h.ends;
  ordered = h.ordered;
}

stands_alike : (tests : List Test) (width : ℕ) (left right : Filed) (tables others : Tables) (marks : List ℕ) → SameTables tables others
    → StandsOnTwo tests width left right tables marks → StandsOnTwo tests width left right others marks
stands_alike tests width left right tables others marks k h = record {
  table = same_length tables others k ∙ h.table;
  mark = h.mark;
  lefts = keeps_alike _ left _ _ _ (same_at 0 tables others k) h.lefts;
  rights = keeps_alike _ right _ _ _ (same_at 1 tables others k) h.rights;
}

-- what stands for two tables at some marks stands for them at greater ones
pub stands_later : (tests : List Test) (width : ℕ) (left right : Filed) (tables : Tables) (marks later : List ℕ) → AllRise marks later
    → StandsOnTwo tests width left right tables marks → StandsOnTwo tests width left right tables later
stands_later tests width left right tables marks later k h = record {
  table = h.table;
  mark = rise_length marks later k ∙ h.mark;
  lefts = keeps_later _ left _ _ _ (least_rises marks later k) h.lefts;
  rights = keeps_later _ right _ _ _ (least_rises marks later k) h.rights;
}

-- the laws of the meaning of a join, and of what its state stands for
pub join_laws : (tests : List Test) (width : ℕ) (left right : Filed) → OperatorLaws (join_of tests) (StandsOnTwo tests width left right)
join_laws tests width left right = record {
  sized = λ tables marks h. (h.table, h.mark);
  rising = λ tables marks later h k. stands_later tests width left right tables marks later k h;
  alike = λ tables others marks k h. stands_alike tests width left right tables others marks k h;
  same_rows = λ tables others k. same_chosen (joined_rows (passes tests)) tables others k;
  nothing = nothing_chosen (joined_rows (passes tests)) 1;
  bound_rises = λ tables marks later h k. least_rises marks later k;
  bound_stays = λ tables marks port change after h k m. omega arith;
  bound_is_time = λ tables marks h k. least_is_time marks;
  echo_bound = λ tables marks e h. cc;
}
