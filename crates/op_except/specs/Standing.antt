-- What the state of an except stands for.
use Rattle.std.specs.Prelude.{ℕ, ◌≡◌, ◌<◌, ◌≤◌, ◌⊎◌, List, ◌++◌, length}
use Rattle.std.specs.List.Sorted.{IsStrictlySortedBy}
use Rattle.std.specs.Map.{keys_of}
use Rattle.std.specs.Ordering.{nat_cmp}
use Rattle.cedr_base.specs.declared.field.Field.{Field}
use Rattle.cedr_base.specs.declared.row.Row.{Row}
use Rattle.cedr_base.specs.Rows.{count_of, AreRows, SameRows}
use Rattle.cedr_table.specs.Operators.{Tables, table_at, least_of}
use Rattle.cedr_table.specs.Counted.{SameAmong}
use Rattle.cedr_expr.specs.Tags.{left_tag, right_tag}
use Rattle.filed_rows.specs.declared.filed.Filed.{Filed}
use Rattle.filed_rows.specs.Filed.{Files}
use Rattle.filed_rows.specs.Ends.{AreEnds}
use Rattle.op_except.specs.declared.lives.Lives.{Lives}
use Rattle.op_except.specs.declared.except.Except.{Except}
use Rattle.op_except.specs.Parts.{all_excepted}
use Rattle.op_except.specs.Lives.{bares, lasts_to, AreLives}

-- the lives of two rows don't meet
abbrev pub NeverMeet : Row → Row → Type 0
NeverMeet a b = (a.end ≤ b.begin) ⊎ (b.end ≤ a.begin)

-- Some rows of the tables are kept and the others are gone: those of port 0 ended before the least mark; those of port 1
-- ended by then, and meet no kept row of port 0.
pub record KeptRows (lefts rights : List Row) (tables : Tables) (marks : List ℕ) : Type 0 where
  pub table : length tables ≡ 2
  pub mark : length marks ≡ 2
  pub lefts_gone : List Row
  pub rights_gone : List Row
  pub left : SameRows (lefts ++ lefts_gone) (table_at tables 0)
  pub right : SameRows (rights ++ rights_gone) (table_at tables 1)
  pub left_rows : AreRows (table_at tables 0)
  pub right_rows : AreRows (table_at tables 1)
  pub lefts_ended : (r : Row) → 0 < count_of r lefts_gone → r.end < least_of marks
  pub rights_ended : (r : Row) → 0 < count_of r rights_gone → r.end ≤ least_of marks
  pub apart : (a b : Row) → 0 < count_of a lefts → 0 < count_of b rights_gone → NeverMeet a b

-- rows are filed under their tags, with their ends
pub record IsFiled (tag : List Field → ℕ) (filed : Filed) (rows : List Row) : Type 0 where
  pub files : Files tag filed.by_tag.entries rows
  pub ends : AreEnds filed.by_tag.entries filed.ends
  pub ordered : IsStrictlySortedBy nat_cmp (keys_of filed.by_tag.entries)

-- the kept rows of both ports are filed, and the lives of those of port 0 are known
pub record SidesStand (op : Except) (tables : Tables) (marks : List ℕ) : Type 0 where
  pub lefts : List Row
  pub rights : List Row
  pub kept : KeptRows lefts rights tables marks
  pub left : IsFiled (left_tag op.width op.tests) op.left lefts
  pub right : IsFiled (right_tag op.width op.tests) op.right rights
  pub lives_are : AreLives op.lives.by_begin.keys op.lives.by_end
  pub lives : SameRows op.lives.by_end (bares lefts)

-- of the lives of rows those are known that don't end before a mark
pub record KnowsLives (known : Lives) (mark : ℕ) (rows : List Row) : Type 0 where
  pub lives_are : AreLives known.by_begin.keys known.by_end
  pub same : SameAmong (lasts_to mark) known.by_end (bares rows)

-- beside the kept rows of both ports the lives of those rows of the result are known that don't end before the least mark
pub record ExceptStands (op : Except) (tables : Tables) (marks : List ℕ) : Type 0 where
  pub sides : SidesStand op tables marks
  pub parts : KnowsLives op.parts (least_of marks) (all_excepted op.tests tables)
