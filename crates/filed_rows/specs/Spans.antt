-- Rows that end and rows without end, apart.
use Rattle.std.specs.Prelude.{ℕ, ◌≡◌, ◌≢◌, ◌<◌, ◌≤◌, ◌+◌, List, Bool, ◌&&◌, nat_lt, nat_le}
use Rattle.cedr_base.specs.declared.time.TheConstants.{FOREVER}
use Rattle.cedr_base.specs.declared.row.Row.{Row}
use Rattle.cedr_base.specs.Rows.{count_of}

-- no row is valid for longer
abbrev pub AreShort : ℕ → List Row → Type 0
AreShort longest rows = (r : Row) → 0 < count_of r rows → r.end ≤ r.begin + longest

-- no row ends
abbrev pub AreOpen : List Row → Type 0
AreOpen rows = (r : Row) → 0 < count_of r rows → r.end ≡ FOREVER

-- rows that end, none of which is valid for longer, and rows without end
pub record AreSpans (longest : ℕ) (ending unended : List Row) : Type 0 where
  pub short : AreShort longest ending
  pub end : (r : Row) → 0 < count_of r ending → r.end ≢ FOREVER
  pub never : AreOpen unended

-- a row ends after a time and before another one
abbrev pub ends_within : ℕ → ℕ → Row → Bool
ends_within time last r = nat_lt time r.end && nat_lt r.end last

-- a row begins before a time
abbrev pub begins_before : ℕ → Row → Bool
begins_before time r = nat_lt r.begin time

-- a row ends at a time or before
abbrev pub ends_by : ℕ → Row → Bool
ends_by time r = nat_le r.end time

-- a row ends after a time and begins before another one
abbrev pub lives_within : ℕ → ℕ → Row → Bool
lives_within time last r = nat_lt time r.end && nat_lt r.begin last

-- each of these rows is among others
abbrev pub AreAmong : List Row → List Row → Type 0
AreAmong rows others = (r : Row) → 0 < count_of r rows → 0 < count_of r others
