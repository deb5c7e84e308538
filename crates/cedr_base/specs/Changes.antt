-- Changes, and what they do to a bag of rows.
use Rattle.std.specs.Prelude.{ℕ, ◌<◌, ◌≤◌, ◌+◌, ◌-◌, List, [], ◌∷◌, nat_lt, if◌then◌else◌}
use Rattle.std.specs.List.{flat_map}
use Rattle.cedr_base.specs.declared.row.Row.{Row}
use Rattle.cedr_base.specs.declared.change.Change.{Change}
use Rattle.cedr_base.specs.declared.change.Change.TheVariants.{Add, Cut}
use Rattle.cedr_base.specs.Rows.{IsRow, count_of}

-- from when on a change is seen: an insertion from its begin, a retraction from its new end
abbrev pub sync_of : Change → ℕ
sync_of (Add r) = r.begin
sync_of (Cut r e) = e

-- the row that a change adds or cuts
abbrev pub changed_row : Change → Row
changed_row (Add r) = r
changed_row (Cut r e) = r

-- a retraction shortens a row, and never to before its begin
abbrev pub IsChange : Change → Type 0
IsChange (Add r) = IsRow r
IsChange (Cut r e) = IsRow r × (r.begin ≤ e) × (e < r.end)

-- what a retraction leaves of a row: nothing where that would be empty
abbrev pub remnant : Row → ℕ → List Row
remnant r e = if nat_lt r.begin e then record r { end = e } ∷ [] else []

-- the delta of a change, as the copies that it puts into a bag and those that it takes out
abbrev pub puts : Change → List Row
puts (Add r) = r ∷ []
puts (Cut r e) = remnant r e

-- the copies that a change takes out of a bag: none for an insertion, the row itself for a retraction
abbrev pub takes : Change → List Row
takes (Add r) = []
takes (Cut r e) = r ∷ []

-- the deltas of a list of changes
abbrev pub all_puts : List Change → List Row
all_puts cs = flat_map puts cs

-- all copies that a list of changes takes out, change by change
abbrev pub all_takes : List Change → List Row
all_takes cs = flat_map takes cs

-- how many copies of a row a bag has after these changes of it
abbrev pub count_after : List Row → List Change → Row → ℕ
count_after old cs r = (count_of r old + count_of r (all_puts cs)) - count_of r (all_takes cs)

-- a change may follow others: it is one, and a retraction's row is there
abbrev pub MayFollow : List Row → List Change → Change → Type 0
MayFollow old before (Add r) = IsChange (Add r)
MayFollow old before (Cut r e) = IsChange (Cut r e) × (0 < count_after old before r)
