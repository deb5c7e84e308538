-- What stands and what is valid at a time, among the rows of one group.
use Rattle.std.specs.Prelude.{ℕ, ◌≡◌, ◌<◌, ◌+◌, ◌%◌, ◌^◌, List, [], ◌∷◌, ◌++◌, Bool, true, false, cond, length, map, take, sum_by, nat_lt, nat_le, nat_eq, Option, zero, suc, replicate}
use Rattle.std.specs.List.{filter}
use Rattle.cedr_base.specs.declared.field.Field.{Field}
use Rattle.cedr_base.specs.declared.row.Row.{Row}
use Rattle.op_group.specs.declared.segment.Totalled.{Totalled}
use Rattle.op_group.specs.Groups.{Grouping, lives_at, column_number, least_in, greatest_in, rows_of}
use Rattle.op_group.specs.Tallies.{Tally}
use Rattle.op_group.specs.Cuts.{one_at, totals}

-- how many of its begin and its end stand at a time
abbrev pub edge_at : ℕ → Row → ℕ
edge_at t r = one_at r.begin t + one_at r.end t

-- what it adds at a time to a sum of some weights
abbrev pub part_at : (Row → ℕ) → ℕ → Row → ℕ
part_at weight t r = cond (lives_at t r) (weight r) 0

-- how many begins and ends of rows stand at a time
abbrev pub edges_of : List Row → ℕ → ℕ
edges_of rows t = sum_by (edge_at t) rows

-- how many rows are valid at a time
abbrev pub living_of : List Row → ℕ → ℕ
living_of rows t = sum_by (part_at (λ _. 1) t) rows

-- the least and the greatest fields of rows that are asked for
abbrev pub extremes_of : Totalled → List Row → List (Option Field)
extremes_of asked rows = map (least_in rows) asked.least ++ map (greatest_in rows) asked.greatest

-- the totals of the rows that are valid at a time
abbrev pub tally_of : Totalled → List Row → ℕ → Tally
tally_of asked rows t = record { sums = map (λ column. sum_by (part_at (column_number column) t) rows % 2 ^ 128) asked.sums; extremes = extremes_of asked (filter (lives_at t) rows) }

-- the totals of no rows
abbrev pub no_totals : Totalled → Tally
no_totals asked = record { sums = replicate (length asked.sums) 0; extremes = extremes_of asked [] }

-- a time is among others
abbrev pub among : ℕ → List ℕ → Bool
among t [] = false
among t (s ∷ ts) = cond (nat_eq t s) true (among t ts)

-- each of the times is above a time
abbrev pub AllAbove : ℕ → List ℕ → Type 0
AllAbove t [] = Unit {0}
AllAbove t (s ∷ ts) = (t < s) × AllAbove t ts

-- each time is below those after it
abbrev pub Ascends : List ℕ → Type 0
Ascends [] = Unit {0}
Ascends (t ∷ ts) = AllAbove t ts × Ascends ts

module _ (counted : Bool) (key : List Field) (living : ℕ → ℕ) (tally : ℕ → Tally) where
  -- the row between two times
  abbrev pub row_from : ℕ → ℕ → Row
  row_from p q = record { end = q; begin = p; payload = key ++ totals counted (living p) (tally p) }

  abbrev pub one_row : ℕ → ℕ → List Row
  one_row p q = cond (nat_eq (living p) 0) [] (row_from p q ∷ [])

  -- the rows between each two neighbouring times
  abbrev pub rows_at : List ℕ → List Row
  rows_at [] = []
  rows_at (p ∷ []) = []
  rows_at (p ∷ q ∷ ts) = one_row p q ++ rows_at (q ∷ ts)

  -- a row is one of those between neighbouring cut points
  pub record Fits (is_cut : ℕ → Bool) (r : Row) : Type 0 where
    pub starts : is_cut r.begin ≡ true
    pub ends : is_cut r.end ≡ true
    pub apart : (t : ℕ) → r.begin < t → t < r.end → is_cut t ≡ false
    pub order : r.begin < r.end
    pub lives : 0 < living r.begin
    pub payload_is : r.payload ≡ key ++ totals counted (living r.begin) (tally r.begin)

-- some begin or end stands at a time
abbrev pub is_cut_of : List Row → ℕ → Bool
is_cut_of rows t = nat_lt 0 (edges_of rows t)

-- how many of some columns a payload of a length has
abbrev pub columns_below : ℕ → List ℕ → ℕ
columns_below n columns = sum_by (λ column. cond (nat_lt column n) 1 0) columns

-- how many fields a row of the result has, where the longest payload of its rows has a length
abbrev pub result_length : Grouping → ℕ → ℕ
result_length g n = columns_below n g.keys + (cond g.counted 1 0 + (length g.totalled.sums + (columns_below n g.totalled.least + columns_below n g.totalled.greatest)))

-- of the lengths up to a bound the greatest one for which a row of the result has at most so many fields, and else 0
abbrev pub longest_for : Grouping → ℕ → ℕ → ℕ
longest_for g width zero = 0
longest_for g width (suc n) = cond (nat_le (result_length g (suc n)) width) (suc n) (longest_for g width n)

-- a length above all columns that are named
abbrev pub above_columns : Grouping → ℕ
above_columns g = sum_by suc g.keys + (sum_by suc g.totalled.least + sum_by suc g.totalled.greatest)

-- The key of a row of the result: what stands before its totals. How many fields the row has tells how many of them are
-- the key's, since longer payloads have more of the key's columns, and of all others.
abbrev pub key_in : Grouping → Row → List Field
key_in g r = take (columns_below (longest_for g (length r.payload) (above_columns g)) g.keys) r.payload

-- a row is one of a result
abbrev pub IsGroupRow : Grouping → List Row → Row → Type 0
IsGroupRow grouping rows r = let group = rows_of grouping (key_in grouping r) rows in
    Fits grouping.counted (key_in grouping r) (living_of group) (tally_of grouping.totalled group) (is_cut_of group) r
