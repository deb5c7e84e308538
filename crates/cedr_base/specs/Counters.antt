-- Counts of steps, kept in 64 bits.
use Rattle.std.specs.Prelude.{ℕ, ◌+◌, ◌-◌, ◌^◌, min}

-- one step more was counted. The count stays at its last value
abbrev pub raised : ℕ → ℕ
raised n = min (n + 1) (2 ^ 64 - 1)
