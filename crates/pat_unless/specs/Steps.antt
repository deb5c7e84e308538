-- Which rows a change blocks or frees.
use Rattle.std.specs.Prelude.{ℕ, ◌≡◌, ◌++◌, List, [], not, ◌&&◌, if◌then◌else◌, map}
use Rattle.std.specs.List.{flat_map}
use Rattle.cedr_base.specs.declared.row.Row.{Row}
use Rattle.cedr_base.specs.declared.change.Change.{Change}
use Rattle.cedr_base.specs.Rows.{SameRows}
use Rattle.cedr_base.specs.Changes.{puts, takes}
use Rattle.cedr_expr.specs.declared.test.Test.{Test}
use Rattle.cedr_expr.specs.Tests.{passes}
use Rattle.pat_state.specs.declared.answer.Way.{Way}
use Rattle.pat_state.specs.Answers.{answered}
use Rattle.pat_state.specs.Starts.{all_endless}
use Rattle.pat_unless.specs.Blocking.{blocks, is_blocked_by, waited, unblocked}

-- the row that a gives where b blocks it and no other row does
abbrev pub only_blocked : ℕ → ℕ → List Test → List Row → Row → Row → List Row
only_blocked scope hold tests others b a = if blocks scope tests a b then unblocked scope hold tests others a else []

-- the same for a row with b in its scope
abbrev pub freed : ℕ → ℕ → List Test → List Row → Row → Row → List Row
freed scope hold tests others b a = if passes tests a.payload b.payload && not (is_blocked_by scope tests others a) then waited scope hold a else []

-- the rows of the result of which b decides
abbrev pub decided : ℕ → ℕ → List Test → List Row → Row → List Row → List Row
decided scope hold tests others b rows = flat_map (only_blocked scope hold tests others b) rows

-- rows went through a change
pub record IsStep (change : Change) (old new : List Row) : Type 0 where
  pub sums : SameRows (new ++ all_endless (takes change)) (old ++ all_endless (puts change))

-- changes were appended by which these rows, in some order, join or leave the result
pub record Appends (way : Way) (rows : List Row) (before after : List Change) : Type 0 where
  pub found : List Row
  pub same : SameRows found rows
  pub answers : after ≡ before ++ map (answered way) found
