-- What is reported of an answer: how many rows it has, and for how long they are valid together.
use Rattle.std.specs.Prelude.{ℕ, ◌-◌, List, [], ◌∷◌, ◌++◌, codes, decimal, length, sum_by}
use Rattle.cedr_base.specs.declared.row.Row.{Row}
use Rattle.cedr_base.specs.Bytes.{line_feed}

-- for how long rows are valid together: the sum of the lengths of their valid intervals
abbrev pub total_length : List Row → ℕ
total_length rows = sum_by (λ (r : Row). r.end - r.begin) rows

-- `rows R length L` and a line feed: how many rows there are, and for how long they are valid together
abbrev pub summary_text : List Row → List ℕ
summary_text rows = codes "rows " ++ (decimal (length rows) ++ (codes " length " ++ (decimal (total_length rows) ++ line_feed ∷ [])))
