-- Rows in order of begin, and rows that move from one list to another.
use Rattle.std.specs.Prelude.{ℕ, ◌≡◌, ◌<◌, ◌++◌, List, map, replicate, filter, not, Bool, ◌||◌, nat_lt}
use Rattle.cedr_base.specs.declared.row.Row.{Row}
use Rattle.cedr_base.specs.Rows.{count_of, SameRows}

-- a row with its begin and its end exchanged
abbrev pub turned : Row → Row
turned r = record { end = r.begin; begin = r.end; payload = r.payload }

-- the rows with their begins and their ends exchanged
abbrev pub all_turned : List Row → List Row
all_turned rows = map turned rows

-- a row needn't wait for its end, which the mark passed or the list's end did
abbrev pub has_ended : Bool → ℕ → Row → Bool
has_ended ended mark r = ended || nat_lt r.end mark

-- all rows that pass a test moved from one list to another
pub record IsMovedOut (goes : Row → Bool) (all left before released : List Row) : Type 0 where
  pub left_are : SameRows left (filter (λ r. not (goes r)) all)
  pub released_are : SameRows released (before ++ filter goes all)

-- all copies of a row that is there were taken out of a bag
pub record IsPopped (row : Row) (count : ℕ) (old new : List Row) : Type 0 where
  pub there : 0 < count
  pub counted : count ≡ count_of row old
  pub removed : SameRows (replicate count row ++ new) old
