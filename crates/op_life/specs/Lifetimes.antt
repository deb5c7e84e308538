-- The operators that make each row's valid interval anew, and what they may promise at a mark.
use Rattle.std.specs.Prelude.{ℕ, ◌/◌, ◌*◌, List, Some, min, nat_lt, nat_eq, if◌then◌else◌}
use Rattle.cedr_base.specs.declared.time.TheConstants.{FOREVER}
use Rattle.cedr_base.specs.declared.row.Row.{Row}
use Rattle.change_laws.specs.Times.{later}
use Rattle.cedr_base.specs.declared.interval.Interval.{Interval}
use Rattle.cedr_table.specs.RowWise.{made}

-- the row with another interval, and none where that is empty
abbrev pub with_life : (ℕ → ℕ → Interval) → Row → List Row
with_life life r = made (life r.begin r.end) (Some r.payload)

-- at most for a while from its begin on
abbrev pub windowed : ℕ → ℕ → ℕ → Interval
windowed width begin end = record { begin = begin; end = min end (later begin width) }

-- a while later
abbrev pub shifted : ℕ → ℕ → ℕ → Interval
shifted by begin end = record { begin = later begin by; end = later end by }

-- the greatest multiple of a while that isn't above a time
abbrev pub multiple_below : ℕ → ℕ → ℕ
multiple_below every time = (time / every) * every

-- for a while from the last multiple of another while on
abbrev pub hopped : ℕ → ℕ → ℕ → ℕ → Interval
hopped every width begin end = record { begin = multiple_below every begin; end = later (multiple_below every begin) width }

-- from the begin on, for ever
abbrev pub started : ℕ → ℕ → Interval
started begin end = record { begin = begin; end = FOREVER }

-- from the end on, for ever
abbrev pub ended : ℕ → ℕ → Interval
ended begin end = record { begin = end; end = FOREVER }

-- at the mark 0 a shift may promise no more than that: the first row may begin a while after it
abbrev pub shifted_mark : ℕ → ℕ → ℕ
shifted_mark by mark = if nat_eq mark 0 then 0 else later mark by

-- the last multiple of a while that isn't above a mark, and FOREVER where the mark isn't finite
abbrev pub hopped_mark : ℕ → ℕ → ℕ
hopped_mark every mark = if nat_lt mark FOREVER then multiple_below every mark else FOREVER
