-- Tables up to a time.
use Rattle.std.specs.Prelude.{ℕ, ◌∷◌, [], List, min, nat_lt, if◌then◌else◌}
use Rattle.std.specs.List.{flat_map}
use Rattle.cedr_base.specs.declared.row.Row.{Row}
use Rattle.cedr_base.specs.Rows.{SameRows}

-- what a row is before a time: its end is at most that, and where it is empty then there is none
abbrev pub row_up_to : ℕ → Row → List Row
row_up_to t r = if nat_lt r.begin (min r.end t) then record r { end = min r.end t } ∷ [] else []

-- what a table is before a time: what each of its rows is before it
abbrev pub rows_up_to : ℕ → List Row → List Row
rows_up_to t rows = flat_map (row_up_to t) rows

-- two tables agree up to a time: before it they are the same bag
pub record AgreeUpTo (t : ℕ) (xs ys : List Row) : Type 0 where
  pub same : SameRows (rows_up_to t xs) (rows_up_to t ys)
