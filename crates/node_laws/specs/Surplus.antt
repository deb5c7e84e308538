-- Bags less other bags, and rows that ascend.
use Rattle.std.specs.Prelude.{◌≡◌, List, [], ◌∷◌, Bool, false}
use Rattle.std.specs.Ordering.{is_gt}
use Rattle.cedr_base.specs.declared.row.Row.{Row}
use Rattle.cedr_base.specs.declared.change.Change.{Change}
use Rattle.cedr_base.specs.Rows.{row_cmp}
use Rattle.cedr_base.specs.Changes.{all_puts, all_takes}
use Rattle.change_laws.specs.Bags.{without}

-- the rows less one copy for each of other rows
abbrev pub less : List Row → List Row → List Row
less xs [] = xs
less xs (y ∷ ys) = less (without y xs) ys

-- the table that changes make from nothing: all that they put less all that they take
abbrev pub table_of : List Change → List Row
table_of cs = less (all_puts cs) (all_takes cs)

-- a row stands after another one in canonical order
abbrev pub is_after : Row → Row → Bool
is_after a b = is_gt (row_cmp a b)

-- a row stands after no row of a list
abbrev pub AllFromRow : Row → List Row → Type 0
AllFromRow r [] = Unit {0}
AllFromRow r (x ∷ xs) = (is_after r x ≡ false) × AllFromRow r xs

-- each row stands after no later one
abbrev pub Ascend : List Row → Type 0
Ascend [] = Unit {0}
Ascend (r ∷ rs) = AllFromRow r rs × Ascend rs
