-- Rows in their canonical order, and bags of rows.
use Rattle.std.specs.Prelude.{ℕ, ◌≡◌, ◌<◌, ◌≤◌, List, [], ◌∷◌, Bool, cond, if◌then◌else◌, sum_by}
use Rattle.std.specs.declared.cmp.Ordering.{Ordering}
use Rattle.std.specs.Ordering.{nat_cmp, ordering_then, is_eq, is_le}
use Rattle.cedr_base.specs.declared.time.TheConstants.{FOREVER}
use Rattle.cedr_base.specs.declared.row.Row.{Row}
use Rattle.cedr_base.specs.Order.{payload_cmp}

-- a row is valid for some time, and begins at a finite one
pub record IsRow (r : Row) : Type 0 where
  pub lives : r.begin < r.end
  pub begins : r.begin < FOREVER
  pub ends : r.end ≤ FOREVER

-- the canonical order: by end, then by begin, then by payload
abbrev pub row_cmp : Row → Row → Ordering
row_cmp a b = ordering_then (nat_cmp a.end b.end) (ordering_then (nat_cmp a.begin b.begin) (payload_cmp a.payload b.payload))

-- two rows are the same where the canonical order compares them as equal
unfoldable pub same_row : Row → Row → Bool
same_row a b = is_eq (row_cmp a b)

-- 1 where the rows are the same, else 0
abbrev pub one_if_same : Row → Row → ℕ
one_if_same r x = cond (same_row r x) 1 0

-- a table is a bag of rows: a list, of which only these counts matter
abbrev pub count_of : Row → List Row → ℕ
count_of r rows = sum_by (one_if_same r) rows

-- a row at its place among rows in canonical order
abbrev pub put_in_order : Row → List Row → List Row
put_in_order row [] = row ∷ []
put_in_order row (first ∷ rows) = if is_le (row_cmp row first) then row ∷ first ∷ rows else first ∷ put_in_order row rows

-- the rows of a bag in canonical order
abbrev pub in_order : List Row → List Row
in_order [] = []
in_order (row ∷ rows) = put_in_order row (in_order rows)

-- each row of a bag is one
pub record AreRows (rows : List Row) : Type 0 where
  pub each : (r : Row) → 0 < count_of r rows → IsRow r

-- the same bag
pub record SameRows (xs ys : List Row) : Type 0 where
  pub each : (r : Row) → count_of r xs ≡ count_of r ys
