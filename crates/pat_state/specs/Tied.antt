-- Rows of two ports with their tags.
use Rattle.std.specs.Prelude.{ℕ, List, ◌++◌}
use Rattle.cedr_base.specs.declared.row.Row.{Row}
use Rattle.cedr_expr.specs.declared.test.Test.{Test}
use Rattle.pat_state.specs.declared.tied.Tied.{Tied}
use Rattle.pat_state.specs.declared.crossing.Crossing.{Crossing}
use Rattle.cedr_expr.specs.Tags.{left_tag, right_tag}
use Rattle.pat_state.specs.Starts.{all_endless}
use Rattle.pat_state.specs.Tags.{bag_of, HaveOwnTags, IsTagged}

-- the left rows
abbrev pub left_rows : Tied → List Row
left_rows tied = bag_of tied.left.tags

-- the right rows
abbrev pub right_rows : Tied → List Row
right_rows tied = bag_of tied.right.tags

-- all that is held of the left port: its rows, and besides those that are noted to be due, as if they never ended
abbrev pub left_held : Tied → List Row
left_held tied = left_rows tied ++ all_endless tied.left.due

-- the same of the right port
abbrev pub right_held : Tied → List Row
right_held tied = right_rows tied ++ all_endless tied.right.due

-- each row of both ports has its tag beside left payloads of the width
pub record AreTied (tests : List Test) (tied : Tied) : Type 0 where
  pub left_are : HaveOwnTags (left_tag tied.width tests) tied.left.tags
  pub right_are : HaveOwnTags (right_tag tied.width tests) tied.right.tags

-- each row of a port has its tags as the first and as the second of two rows, where payloads have the width
pub record AreCrossed (width : ℕ) (tests : List Test) (crossing : Crossing) : Type 0 where
  pub first_are : IsTagged (left_tag width tests) crossing.rows crossing.first_tags
  pub second_are : IsTagged (right_tag width tests) crossing.rows crossing.second_tags
