-- Counts of faults: kept in 64 bits, they never fall and stay at their last value.
use Rattle.std.specs.Prelude.{ℕ, ◌≡◌, ◌≤◌, ◌+◌, ◌-◌, ◌^◌, min, Result, Ok, Err}
use Rattle.cedr_io.specs.declared.fault.Failed.{Failed}
use Rattle.cedr_io.specs.declared.fault.OutsideFault.{OutsideFault}
use Rattle.cedr_io.specs.declared.fault.OutsideFault.TheVariants as outside

-- the last value of a count: the greatest number of 64 bits
abbrev pub last_count : ℕ
last_count = 2 ^ 64 - 1

-- two counts as one
abbrev pub count_sum : ℕ → ℕ → ℕ
count_sum a b = min (a + b) last_count

-- a count rose, or stands at its last value
pub record Rose (old new : ℕ) : Type 0 where
  pub kept : old ≤ new
  pub more : count_sum old 1 ≤ new

-- the count rose where the outside refused, and is as before at every other answer
abbrev pub Counts : {T : Type 0} → Result T OutsideFault → ℕ → ℕ → Type 0
Counts (Ok x) old new = new ≡ old
Counts (Err outside.Failed) old new = Rose old new
Counts (Err outside.OutOfMemory) old new = new ≡ old

-- the same of a read, which can't lack memory
abbrev pub CountsRead : {T : Type 0} → Result T Failed → ℕ → ℕ → Type 0
CountsRead (Ok x) old new = new ≡ old
CountsRead (Err failed) old new = Rose old new
